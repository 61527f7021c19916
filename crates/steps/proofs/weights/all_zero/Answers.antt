use Rattle.steps.proofs.LargestLaws.{or_all_below}
use Rattle.steps.proofs.weights.all_zero.Goals as goal

pub returns : goal.returns
returns c = rw c.bits.ensures (or_all_below 0 c.args.w.now)
