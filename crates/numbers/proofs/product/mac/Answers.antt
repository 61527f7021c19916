-- A product of two 16 bit numbers fits 32 bits; the sum fits by the contract.
use native.Mathlib.Omega.{arith}
use native.Mathlib.Nat.{mul-le-mul}
use lib.IntN.{ℤ, ◌+ℤ◌, ◌*ℤ◌}
use mir.Syntax.{w16, w32}
use mir.Val.{SFits}
use mir.Facts.{to_z-of_z}
use Rattle.laws.specs.Integers.{abs_mul}
use Rattle.laws.specs.Machine.{kept_wider, fits_abs, abs_fits}
use Rattle.numbers.proofs.product.mac.Goals as goal

product : {w a : ℤ} → SFits w16 w → SFits w16 a → SFits w32 (w *ℤ a)
product {w} {a} f g = fits_abs (w *ℤ a) (omega (arith, abs_mul w a, mul-le-mul (abs_fits f) (abs_fits g)))

pub returns : goal.returns
returns c =
    let r = c.ranges in
    simp (
      c.from.ensures,
      c.from-2.ensures,
      to_z-of_z r.sum,
      kept_wider w32 tt r.w,
      kept_wider w32 tt r.a,
      to_z-of_z (product r.w r.a),
      to_z-of_z {w = w32} {z = c.args.sum +ℤ c.args.w *ℤ c.args.a} (fits_abs _ c.requires),
    )
