-- The mantissa as a float, times a power of two from the table.
use Prim.Native.Nat.{◌+◌}
use native.Mathlib.Omega.{arith}
use lib.Ieee.{nan}
use mir.Facts.{to_z-of_z}
use Rattle.laws.specs.Machine.{abs_fits}
use Rattle.steps.specs.Limits.{output_exponent_limit}
use Rattle.readings.proofs.ValueLaws.{power_at, product_is}
use Rattle.readings.proofs.value.value.Goals as goal

pub returns : goal.returns
returns c =
    let e = c.args.e in
    let power = power_at 992 (output_exponent_limit + 1) e nan (omega (arith, c.requires.0.1)) in
    rw (to_z-of_z c.ranges.m, c.from.ensures, c.requires.1, power) (product_is c.args.m e (abs_fits c.ranges.m) c.requires.0)
