use Rattle.std.proofs.Common.{◌-◌}
use Rattle.steps.specs.Limits.{weight_unit}
use Rattle.steps.proofs.LargestLaws.{or_all_below}
use Rattle.steps.proofs.weights.all_small.Goals as goal

pub returns : goal.returns
returns c = rw c.bits.ensures (or_all_below (weight_unit - 1) c.args.w.now)
