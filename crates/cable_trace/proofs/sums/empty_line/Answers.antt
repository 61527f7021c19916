use mathlib.Core.Path.{refl}
use Rattle.cable_trace.specs.Calls.{empty_line}
use Rattle.cable_trace.proofs.sums.empty_line.Goals as goal

pub returns : goal.returns
unfolding empty_line
returns c = refl
