-- Four fields, each behind those before it.
use mathlib.Core.Path.{◌≡◌, ◌∙◌}
use native.Mathlib.Omega.{arith}
use lib.IntN.{pos}
use mir.Syntax.{w32}
use mir.Val.{to_z, of_z}
use mir.Facts.{to_z_pos, to_z-of_z}
use Rattle.laws.specs.Machine.{kept}
use Rattle.trace_text.specs.Text.{line}
use Rattle.trace_text.proofs.LineLaws.{line_one, line_two, line_three, line_four, fields_written}
use Rattle.trace_text.proofs.line.Text.line.Goals as goal
use Rattle.trace_text.proofs.line.Text.line.Goals.{After-cast_signed, After-from, After-from-2}

place : (c : After-cast_signed) → to_z w32 (of_z w32 c.cast_signed.result) ≡ pos c.args.place
place c = kept w32 _ c.cast_signed.type_inv ∙ c.cast_signed.ensures ∙ to_z_pos w32 (omega (arith, c.requires.0.place_below))

xi : (c : After-from) → to_z w32 (of_z w32 c.from.result) ≡ pos c.args.xi
xi c = kept w32 _ c.from.type_inv ∙ c.from.ensures

decision : (c : After-from-2) → to_z w32 (of_z w32 c.from-2.result) ≡ c.args.decision
decision c = kept w32 _ c.from-2.type_inv ∙ c.from-2.ensures ∙ to_z-of_z c.ranges.decision

pub field-requires : goal.field-requires
field-requires c =
    let a = c.args in
    let at = goal.at.field-requires c in
    line_one a.place a.y a.xi a.decision a.self.now.end a.self.now.out.now c.requires.0 c.requires.1 (place at.After-cast_signed) _

pub field-requires-2 : goal.field-requires-2
field-requires-2 c =
    let a = c.args in
    let at = goal.at.field-requires-2 c in
    line_two a.place a.y a.xi a.decision a.self.now.end a.self.now.out.now c.requires.0 c.requires.1 (place at.After-cast_signed) _ c.field.ensures.text (to_z-of_z c.ranges.y) _

pub field-requires-3 : goal.field-requires-3
field-requires-3 c =
    let a = c.args in
    let at = goal.at.field-requires-3 c in
    line_three a.place a.y a.xi a.decision a.self.now.end a.self.now.out.now c.requires.0 c.requires.1 (place at.After-cast_signed) _ c.field.ensures.text (to_z-of_z c.ranges.y) _ c.field-2.ensures.text (xi at.After-from) _

pub field-requires-4 : goal.field-requires-4
field-requires-4 c =
    let a = c.args in
    let at = goal.at.field-requires-4 c in
    line_four a.place a.y a.xi a.decision a.self.now.end a.self.now.out.now c.requires.0 c.requires.1 (place at.After-cast_signed) _ c.field.ensures.text (to_z-of_z c.ranges.y) _ c.field-2.ensures.text (xi at.After-from) _ c.field-3.ensures.text (decision at.After-from-2) _

pub returns-clause-text : goal.returns-clause-text
unfolding line
returns-clause-text c =
    let a = c.args in
    let at = goal.at.returns-clause-text c in
    fields_written a.place a.y a.xi a.decision a.self.now.end a.self.now.out.now c.requires.0 c.requires.1 (place at.After-cast_signed) _ c.field.ensures.text (to_z-of_z c.ranges.y) _ c.field-2.ensures.text (xi at.After-from) _ c.field-3.ensures.text (decision at.After-from-2) _ c.field-4.ensures.text
