-- Laws of the decision: sizes, and which end is met.
use Prim.Native.Nat.{ℕ, ◌+◌, ◌*◌, ◌^◌, ◌≤◌, ◌<◌}
use native.Mathlib.Omega.{arith}
use native.Mathlib.Nat.{lt_of_le_of_lt}
use lib.IntN.{ℤ, pos, negsuc, neg_ℤ, nat_abs, ◌+ℤ◌, ◌*ℤ◌}
use lib.Signed.{mag, mag_shr, nat_abs-le, ◌≤ℤ◌}
use Rattle.laws.specs.Parts.{abs_parts}
use Rattle.laws.specs.Integers.{abs_add, abs_mul}
use Rattle.laws.specs.Linear.{by_abs, of_le, atom, neg}
use Rattle.laws.specs.Powers.{rises}
use Rattle.steps.specs.Limits.{symbol_limit}
use Rattle.steps.specs.Decision.{floor}

pub symbol_most : (r : ℕ) → r ≤ symbol_limit → 2 ^ (r + 1) ≤ 2 ^ (symbol_limit + 1)
symbol_most r h = rises {a = r + 1} {b = symbol_limit + 1} (omega arith)

-- a floor may reach the bound that a number is below
pub floor_most : (y : ℤ) (k b : ℕ) → nat_abs y < b → nat_abs (floor y k) ≤ b
floor_most y k b h = nat_abs-le (floor y k) (lt_of_le_of_lt (mag_shr y (2 ^ k)) (below y h))
  where
    below : (y : ℤ) → nat_abs y < b → mag y < b
    below (pos n) h = h
    below (negsuc n) h = omega arith

-- twice a number, and one more
pub odd_most : (f : ℤ) (b : ℕ) → nat_abs f ≤ b → nat_abs (pos 2 *ℤ f +ℤ pos 1) ≤ 2 * b + 1
odd_most f b h = omega (arith, abs_add (pos 2 *ℤ f) (pos 1), abs_mul (pos 2) f)

-- what lies between the ends is no larger than they are
pub between_ends : (top d : ℤ) → d ≤ℤ top → neg_ℤ top ≤ℤ d → nat_abs d ≤ nat_abs top
between_ends top d h k =
    by_abs d (atom d) (omega (arith, of_le (atom d) (atom top) h, of_le (neg (atom top)) (atom d) k, abs_parts top))
