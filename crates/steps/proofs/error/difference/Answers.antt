-- Both parts are at most half of 2^output_unit in magnitude, so their difference fits 32 bits.
use Rattle.std.proofs.Common.{◌≡◌, arith, rules, w32}
use Rattle.laws.specs.Machine.{difference_kept}
use Rattle.numbers.specs.Cut.{cut, raise}
use Rattle.numbers.proofs.CutLaws.{cut_le, raise_abs}
use Rattle.steps.proofs.error.difference.Goals as goal

pub overflow_sub-result : goal.overflow_sub-result
overflow_sub-result c =
    let e : c.raise.result ≡ raise c.args.v c.args.up = search rules in
    let d : c.cut.result ≡ cut c.args.y c.args.down = search rules in
    (difference_kept w32 c.raise.type_inv c.cut.type_inv e d (omega (arith, raise_abs c.args.v c.args.up, cut_le c.args.y c.args.down, c.requires))).0

pub returns : goal.returns
returns c = search (rules, overflow_sub-result)
