use mathlib.Core.Path.{refl}
use Rattle.cable_trace.specs.Calls.{empty_sums}
use Rattle.cable_trace.proofs.sums.empty_sums.Goals as goal

pub returns : goal.returns
unfolding empty_sums
returns c = refl
