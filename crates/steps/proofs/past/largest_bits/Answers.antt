use Rattle.std.proofs.Common.{rules}
use Rattle.steps.proofs.LargestLaws.{folded_bits, or_all_largest_bits}
use Rattle.steps.proofs.past.largest_bits.Goals as goal

pub returns : goal.returns
returns c =
    let bits = folded_bits c.args.xs.now c.fold-seen.result (search rules) in
    search (rules, bits, or_all_largest_bits)
