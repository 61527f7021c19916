-- One value a turn.
use mathlib.Core.Path.{ap, ◌∙◌}
use native.Mathlib.Omega.{arith}
use lib.IntN.{ℤ, pos}
use mir.Syntax.{w16}
use Rattle.std.specs.Prelude.{Option, unwrap_or}
use Rattle.laws.specs.Machine.{kept}
use Rattle.laws.specs.Values.{values_written, values_all}
use Rattle.cable_trace.specs.Calls.{taps_length}
use Rattle.cable_trace.proofs.sums.twice.Goals as goal

pub loop-i-preserved : goal.loop-i-preserved
loop-i-preserved c =
    values_written _ taps_length c.loop-i.invariant (pos 0) _ (omega (arith, c.loop-i-test.true, c.requires)) c.loop-i-test.true
    (kept w16 _ c.unwrap_or.type_inv ∙ c.unwrap_or.ensures ∙ ap (λ (r : Option ℤ). unwrap_or r (pos 0)) c.copied.ensures ∙ c.get.ensures.lookup.4 (omega arith) (pos 0))

pub returns : goal.returns
returns c = values_all _ taps_length c.loop-i.invariant c.requires (omega (arith, c.loop-i-test.false, c.requires))
