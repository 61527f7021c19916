-- One line a turn, behind the lines before it.
use mathlib.Core.Path.{refl, ◌∙◌}
use lib.ListN.{get_or}
use native.Mathlib.Omega.{arith}
use lib.IntN.{pos}
use mir.Syntax.{w8, w32}
use Rattle.laws.specs.Machine.{kept}
use Rattle.trace_text.specs.Text.{lines}
use Rattle.trace_text.proofs.TextAtLaws.{text_none}
use Rattle.trace_text.proofs.LineLaws.{line_room, lines_next}
use Rattle.trace_text.proofs.line.Text.lines.Goals as goal

pub loop-i-init : goal.loop-i-init
unfolding lines
loop-i-init c = record { same_reference = refl; text = text_none _ _ }

pub line-requires : goal.line-requires
line-requires c =
    let p = c.requires in
    let l = c.loop-i in
    let h = c.loop-i-test.true in
    let y = kept w32 (get_or c.args.y.now l.i (pos 0)) (omega arith) in
    let d = kept w8 (get_or c.args.decision.now l.i (pos 0)) (omega arith) in
    let e = p.0.each l.i h in
    simp (y, d) (
      record { place_below = omega (arith, e.place_below); Y_below = e.Y_below; ξ_most = e.ξ_most; decision_below = e.decision_below },
      line_room p.0 p.1 l.i h l.invariant.text,
    )

pub loop-i-preserved : goal.loop-i-preserved
loop-i-preserved c =
    let p = c.requires in
    let l = c.loop-i in
    let y = kept w32 (get_or c.args.y.now l.i (pos 0)) (omega arith) in
    let d = kept w8 (get_or c.args.decision.now l.i (pos 0)) (omega arith) in
    record {
      same_reference = c.line.ensures.same_reference ∙ l.invariant.same_reference;
      text = lines_next p.0 p.1 l.i c.loop-i-test.true l.invariant.text y d c.line.ensures.text;
    }
