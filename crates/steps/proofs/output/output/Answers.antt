-- The definition with both sums at the larger exponent.
use Rattle.std.proofs.Common.{◌*◌, ◌-◌, ◌^◌, ◌<◌, arith, rules, mul-le-mul_left, nat_abs}
use Rattle.laws.specs.Powers.{rises}
use Rattle.steps.specs.Limits.{data_unit, output_unit, mantissa_unit}
use Rattle.steps.proofs.OutputLaws.{output_raised, output_exponent_form}
use Rattle.steps.proofs.output.output.Goals as goal

pub added-requires : goal.added-requires
added-requires c =
    let a = c.args in
    let up = mantissa_unit - c.max-over.result in
    let room : nat_abs a.h * 2 ^ up < 2 ^ (output_unit - 2) = omega (arith, mul-le-mul_left (nat_abs a.h) (rises {a = up} {b = data_unit - a.nu} (omega arith)), c.requires.h_small) in
    search rules

pub returns : goal.returns
returns c = search (rules, output_raised, output_exponent_form)
