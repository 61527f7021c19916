-- Neither part grows beyond a quarter of 2^output_unit, so both together fit 32 bits.
use Rattle.std.proofs.Common.{◌≡◌, arith, rules, w32}
use Rattle.laws.specs.Machine.{sum_kept}
use Rattle.numbers.specs.Cut.{cut, raise}
use Rattle.numbers.proofs.CutLaws.{cut_le, cut_most, raise_abs}
use Rattle.steps.proofs.output.added.Goals as goal

pub overflow_add-result : goal.overflow_add-result
overflow_add-result c =
    let e : c.cut.result ≡ cut c.args.f c.args.down = search (rules, cut_most) in
    let d : c.raise.result ≡ raise c.args.h c.args.up = search rules in
    (sum_kept w32 c.cut.type_inv c.raise.type_inv e d (omega (arith, raise_abs c.args.h c.args.up, cut_le c.args.f c.args.down, c.requires))).0

pub returns : goal.returns
returns c = search (rules, overflow_add-result, cut_most)
