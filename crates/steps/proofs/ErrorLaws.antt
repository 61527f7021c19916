-- Laws of the error: where ξ is no smaller than κ, and the room for v·2^(output_unit − θ).
use mathlib.Core.Path.{◌≡◌, sym, ap}
use Prim.Native.Nat.{ℕ, ◌+◌, ◌*◌, ◌-◌, ◌^◌, ◌≤◌}
use native.Mathlib.Omega.{arith}
use native.Mathlib.Nat.{le-max_left, mul-le-mul_left}
use borrow.Author.Tests.{le-ltb}
use lib.IntN.{ℤ, nat_abs, ◌-ℤ◌}
use Rattle.laws.specs.Powers as Powers
use Rattle.laws.specs.Powers.{rises}
use Rattle.numbers.specs.BitLength.{bit_length}
use Rattle.numbers.specs.Cut.{cut, raise}
use Rattle.numbers.proofs.CutLaws.{cut_none}
use Rattle.numbers.proofs.BitLengthLaws.{bit_length_le, bit_length_above}
use Rattle.steps.specs.Limits.{output_unit}
use Rattle.steps.specs.Error.{error, error_exponent}
use Rattle.steps.specs.Sound.{ErrorBounds, DifferenceBounds}
use Rattle.steps.proofs.OutputLaws.{error_exponent_form}

pub exponent_kept : (ξ κ : ℕ) → κ ≤ ξ → error_exponent ξ κ ≡ ξ
unfolding error_exponent
exponent_kept ξ κ h = simp (le-ltb ξ κ h)

pub error_kept : (v Y : ℤ) (ξ κ : ℕ) → κ ≤ ξ → error v Y ξ κ ≡ raise v (output_unit - ξ) -ℤ cut Y 0
unfolding error
error_kept v Y ξ κ h = simp (le-ltb ξ κ h) (ap (λ (x : ℤ). raise v (output_unit - ξ) -ℤ x) (sym (cut_none Y)))

pub length_most : {r s ξ : ℕ} {v y : ℤ} → ErrorBounds r s v y ξ → bit_length (nat_abs v) ≤ r + 1
length_most {r} {s} {ξ} {v} m = bit_length_le (nat_abs v) (r + 1) m.v_small

-- θ is at least the bit length and one
pub difference_bounds : {r s ξ : ℕ} {v y : ℤ} → ErrorBounds r s v y ξ → DifferenceBounds v y ξ (s + bit_length (nat_abs v))
difference_bounds {r} {s} {ξ} {v} {y} m = record {
  y_small = m.y_small;
  ξ_most = omega (arith, m.ξ_most);
  κ_most = omega (arith, length_most m, m.r_most, m.scale_most);
  room = room;
}
  where
    room : nat_abs v * 2 ^ (output_unit - error_exponent ξ (s + bit_length (nat_abs v))) ≤ 2 ^ (output_unit - 1)
    room =
        let n = bit_length (nat_abs v) in
        let x = error_exponent ξ (s + n) in
        let lower : 2 ^ (output_unit - x) ≤ 2 ^ (output_unit - (s + n)) = rises (omega (arith, error_exponent_form ξ (s + n), le-max_left (s + n) ξ)) in
        let top : 2 ^ (output_unit - s) ≤ 2 ^ (output_unit - 1) = rises {a = output_unit - s} {b = output_unit - 1} (omega (arith, m.scale_least)) in
        omega (
          arith,
          mul-le-mul_left (nat_abs v) lower,
          Powers.raise (nat_abs v) (output_unit - s) n (output_unit - (s + n)) (omega (arith, length_most m, m.r_most, m.scale_most)) (bit_length_above (nat_abs v)),
          top,
        )

-- where ξ is no smaller than any κ
module _ {r s ξ : ℕ} {v y : ℤ} (m : ErrorBounds r s v y ξ) (h : s + r + 1 ≤ ξ) where
  most : s + bit_length (nat_abs v) ≤ ξ
  most = omega (arith, length_most m)

  pub output_exponent_error : error_exponent ξ (s + bit_length (nat_abs v)) ≡ ξ
  output_exponent_error = exponent_kept ξ (s + bit_length (nat_abs v)) most

  pub output_error : error v y ξ (s + bit_length (nat_abs v)) ≡ raise v (output_unit - ξ) -ℤ cut y 0
  output_error = error_kept v y ξ (s + bit_length (nat_abs v)) most

  pub output_room : nat_abs v * 2 ^ (output_unit - ξ) ≤ 2 ^ (output_unit - 1)
  output_room = rw (← output_exponent_error) (difference_bounds m).room
