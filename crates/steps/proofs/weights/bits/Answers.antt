use Rattle.std.proofs.Common.{rules}
use Rattle.steps.proofs.LargestLaws.{folded_bits}
use Rattle.steps.proofs.weights.bits.Goals as goal

pub returns : goal.returns
returns c = folded_bits c.args.w.now c.fold.result (search rules)
