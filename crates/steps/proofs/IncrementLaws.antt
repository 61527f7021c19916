-- Laws of what a weight gains: T(J·2^(data_unit − t)·a / 2^update_shift) from |J|, from |a| and from the signs.
use Rattle.std.proofs.Common.{◌≡◌, refl, sym, ap, ◌∙◌, true, false, ℕ, ◌+◌, ◌*◌, ◌-◌, ◌/◌, ◌^◌, ◌≤◌, ◌<◌, arith, div-lt_iff_lt-mul, mul-le-mul, mul-le-mul_right, pow_pos, ℤ, pos, neg_ℤ, nat_abs, ◌+ℤ◌, ◌-ℤ◌, ◌*ℤ◌, w16, SFits}
use Rattle.laws.specs.Integers.{abs_add, abs_mul}
use Rattle.laws.specs.Machine.{fits_abs}
use Rattle.laws.specs.Powers.{split, rises}
use Rattle.numbers.specs.Cut.{cut, raise}
use Rattle.numbers.proofs.CutLaws.{cut_lt, raise_abs, cut_raised, unlike, cut_alike, cut_unlike}
use Rattle.steps.specs.Limits.{weight_unit, data_unit, output_unit, update_shift}
use Rattle.steps.specs.Fir.{Small, adapted}

pub increment_small : (n t : ℕ) → n < 2 ^ (output_unit - 1 + t) → n / 2 ^ (update_shift - data_unit + t) < 2 ^ (weight_unit - 1)
increment_small n t b = (div-lt_iff_lt-mul {k = 2 ^ (update_shift - data_unit + t)} {x = n} {y = 2 ^ (weight_unit - 1)} (pow_pos (update_shift - data_unit + t))).1 (omega (arith, b, split (output_unit - 1 + t) (weight_unit - 1) (update_shift - data_unit + t) (omega arith)))

-- what the factor raised asks
pub raise_room : (J : ℤ) (t : ℕ) → nat_abs J ≤ 2 ^ (output_unit - 1) → nat_abs J * 2 ^ (data_unit - t) < 2 ^ 63
raise_room J t h = omega (arith, mul-le-mul h (rises {a = data_unit - t} {b = data_unit} (omega arith)))

pub raised_room : (J a : ℤ) (t : ℕ) → t ≤ data_unit → nat_abs J * nat_abs a < 2 ^ (output_unit - 1 + t) → nat_abs (raise J (data_unit - t)) * nat_abs a < 2 ^ (output_unit - 1 + data_unit)
raised_room J a t l b =
    omega (
      arith,
      mul-le-mul_right (2 ^ (data_unit - t)) b,
      pow_pos (data_unit - t),
      split (output_unit - 1 + data_unit) (output_unit - 1 + t) (data_unit - t) (omega arith),
      ap (λ (n : ℕ). n * nat_abs a) (raise_abs J (data_unit - t)),
    )

-- ---- the new weight

pub alike_increment : (J a : ℤ) (t : ℕ) → t ≤ data_unit → unlike J a ≡ false → pos (nat_abs J * nat_abs a / 2 ^ (update_shift - data_unit + t)) ≡ cut (raise J (data_unit - t) *ℤ a) update_shift
alike_increment J a t l e = cut_alike J a (update_shift - data_unit + t) e ∙ sym (cut_raised J a (data_unit - t) update_shift (update_shift - data_unit + t) (omega arith))

pub unlike_increment : (J a : ℤ) (t : ℕ) → t ≤ data_unit → unlike J a ≡ true → neg_ℤ (pos (nat_abs J * nat_abs a / 2 ^ (update_shift - data_unit + t))) ≡ cut (raise J (data_unit - t) *ℤ a) update_shift
unlike_increment J a t l e = cut_unlike J a (update_shift - data_unit + t) e ∙ sym (cut_raised J a (data_unit - t) update_shift (update_shift - data_unit + t) (omega arith))

-- by magnitudes, where both or none of J and a is negative, and where one of them is
module _ (J w a : ℤ) (t : ℕ) (l : t ≤ data_unit) where
  abbrev by_size : ℤ
  by_size = pos (nat_abs J * nat_abs a / 2 ^ (update_shift - data_unit + t))

  pub alike_adapted : unlike J a ≡ false → w +ℤ by_size ≡ adapted (raise J (data_unit - t)) w a
  alike_adapted e = ap (λ (x : ℤ). w +ℤ x) (alike_increment J a t l e)

  pub unlike_adapted : unlike J a ≡ true → w -ℤ by_size ≡ adapted (raise J (data_unit - t)) w a
  unlike_adapted e = ap (λ (x : ℤ). w +ℤ x) (unlike_increment J a t l e)

-- a weight and what it gains, each below half of 2^weight_unit
pub adapted_fits : (K w a : ℤ) → Small w → nat_abs K * nat_abs a < 2 ^ (output_unit - 1 + data_unit) → nat_abs (adapted K w a) < 2 ^ weight_unit
adapted_fits K w a h b = omega (arith, abs_add w (cut (K *ℤ a) update_shift), cut_lt (K *ℤ a) (output_unit - 1 + data_unit) (weight_unit - 1) update_shift refl (rw abs_mul b), h)

pub raised_fits : (J w a : ℤ) (t : ℕ) → t ≤ data_unit → Small w → nat_abs J * nat_abs a < 2 ^ (output_unit - 1 + t) → SFits w16 (adapted (raise J (data_unit - t)) w a)
raised_fits J w a t l h b = fits_abs (adapted (raise J (data_unit - t)) w a) (adapted_fits _ w a h (raised_room J a t l b))
