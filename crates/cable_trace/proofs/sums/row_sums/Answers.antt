-- One s a turn, from the window that is newest there.
use mathlib.Core.Path.{refl, ap₂, ◌∙◌}
use Prim.Native.Nat.{◌*◌, ◌%◌}
use Rattle.cable_trace.specs.Limits.{response_limit}
use Rattle.cable_trace.specs.Calls.{sent_place}
use lib.IntN.{pos}
use mir.Syntax.{w32}
use Rattle.laws.specs.Machine.{kept}
use Rattle.laws.specs.Sums.{dot}
use Rattle.laws.specs.Tests.{part_is}
use Rattle.laws.specs.Values.{values_written, values_all}
use Rattle.cable_trace.proofs.sums.row_sums.Goals as goal

pub loop-i-preserved : goal.loop-i-preserved
loop-i-preserved c =
    let i = c.loop-i.i in
    let rows = ap₂ dot (part_is (response_limit * (i % 2)) response_limit c.args.taps.now) (part_is (sent_place i) response_limit c.args.line.now) in
    values_written _ _ c.loop-i.invariant (pos 0) _ c.loop-i-test.true c.loop-i-test.true (kept w32 c.sum.result c.sum.type_inv ∙ c.sum.ensures ∙ rows)

pub returns : goal.returns
returns c = values_all _ _ c.loop-i.invariant refl c.loop-i-test.false
