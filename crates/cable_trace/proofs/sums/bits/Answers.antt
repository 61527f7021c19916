-- The bits of the magnitudes together.
use borrow.Author.Rules.{rules}
use Rattle.steps.proofs.LargestLaws.{folded_bits}
use Rattle.cable_trace.proofs.sums.bits.Goals as goal

pub returns : goal.returns
returns c = folded_bits c.args.sums.now c.fold.result (search rules)
