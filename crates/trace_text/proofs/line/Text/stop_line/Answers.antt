-- The word, then two fields, each behind what is there.
use mathlib.Core.Path.{◌≡◌, ◌∙◌}
use native.Mathlib.Omega.{arith}
use lib.IntN.{pos}
use mir.Syntax.{w32}
use mir.Val.{to_z, of_z}
use mir.Facts.{to_z_pos}
use Rattle.laws.specs.Machine.{kept}
use Rattle.trace_text.specs.Text.{stop_line}
use Rattle.trace_text.proofs.LineLaws.{stop_two, stop_three, stop_fields_written}
use Rattle.trace_text.proofs.line.Text.stop_line.Goals as goal
use Rattle.trace_text.proofs.line.Text.stop_line.Goals.{After-cast_signed, After-from}

number : (c : After-from) → to_z w32 (of_z w32 c.from.result) ≡ pos c.args.number
number c = kept w32 _ c.from.type_inv ∙ c.from.ensures

block : (c : After-cast_signed) → to_z w32 (of_z w32 c.cast_signed.result) ≡ pos c.args.block
block c = kept w32 _ c.cast_signed.type_inv ∙ c.cast_signed.ensures ∙ to_z_pos w32 (omega (arith, c.requires.1))

pub field-requires : goal.field-requires
field-requires c =
    let a = c.args in
    let p = c.requires in
    let at = goal.at.field-requires c in
    stop_two a.number a.block a.self.now.end a.self.now.out.now p.0 p.1 p.2 c.word.ensures.text (number at.After-from) _

pub field-requires-2 : goal.field-requires-2
field-requires-2 c =
    let a = c.args in
    let p = c.requires in
    let at = goal.at.field-requires-2 c in
    stop_three a.number a.block a.self.now.end a.self.now.out.now p.0 p.1 p.2 c.word.ensures.text (number at.After-from) _ c.field.ensures.text (block at.After-cast_signed) _

pub returns-clause-text : goal.returns-clause-text
unfolding stop_line
returns-clause-text c =
    let a = c.args in
    let p = c.requires in
    let at = goal.at.returns-clause-text c in
    stop_fields_written a.number a.block a.self.now.end a.self.now.out.now p.0 p.1 p.2 c.word.ensures.text (number at.After-from) _ c.field.ensures.text (block at.After-cast_signed) _ c.field-2.ensures.text
