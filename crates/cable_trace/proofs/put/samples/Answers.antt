-- Four bytes a turn.
use mathlib.Core.Path.{sym, ◌∙◌}
use native.Mathlib.Omega.{arith}
use borrow.Author.Rules.{rules}
use lib.ListN.{get_or}
use lib.IntN.{pos}
use mir.Syntax.{w32}
use mir.Val.{SFits}
use Rattle.laws.specs.Sums.{each_at}
use Rattle.cable_trace.specs.Calls.{NotNegative}
use Rattle.cable_trace.proofs.PutLaws.{stored_none, stored_part, word_stored}
use Rattle.cable_trace.proofs.put.samples.Goals as goal

pub loop-i-init : goal.loop-i-init
loop-i-init c = sym (stored_none c.args.words.now c.args.out.now)

pub loop-i-preserved : goal.loop-i-preserved
loop-i-preserved c =
    let w = c.args.words.now in
    let i = c.loop-i.i in
    let z = get_or w i (pos 0) in
    let f : SFits w32 z = search rules in
    stored_part w c.args.out.now i c.loop-i.out _ c.loop-i.invariant
    (c.copy_from_slice.ensures.after ∙ c.to_le_bytes.ensures ∙ word_stored z f (each_at NotNegative w i (pos 0) c.requires.0 c.loop-i-test.true)) (omega (arith, c.requires.1, c.loop-i-test.true))
