-- One new weight and the exact one.
use mathlib.Core.Path.{◌≡◌, refl, sym, ap, ◌∙◌, subst}
use mathlib.Core.List.{List, [], ◌∷◌}
use Prim.Native.Nat.{ℕ, suc, ◌+◌, ◌*◌, ◌-◌, ◌^◌, ◌≤◌, ◌<◌}
use native.Mathlib.Omega.{arith}
use native.Mathlib.Nat.{mul-le-mul_right, mul-le-mul_left, le_of_lt}
use lib.ListN.{get_or}
use lib.IntN.{ℤ, pos, nat_abs, ◌+ℤ◌, ◌-ℤ◌, ◌*ℤ◌}
use Rattle.laws.specs.Integers.{abs_add, abs_sub, abs_mul}
use Rattle.laws.specs.Powers.{split, split3, rises}
use Rattle.laws.specs.Ring.{ring, terms}
use Rattle.numbers.specs.Cut.{cut, raise}
use Rattle.numbers.proofs.CutLaws.{cut_error, raise_raise}
use Rattle.steps.specs.Limits.{data_unit, step_unit, received_unit, update_shift, output_raise, weight_raise}
use Rattle.steps.specs.Fir.{adapted}
use Rattle.filter.specs.Sample.{Outcome, keep, halve, double, normalised, normalised_exponent, Near, distance, unit_exponent}
use Rattle.steps.proofs.FirLaws.{halved_at, doubled_at}
use Rattle.filter.proofs.OutcomeLaws.{Says}

-- ---- over plain letters

-- The weight w gains c = J·s·a / u, less than 1 off; J is M-as-Z / t, less than 1 off; Z in units of h is less than one unit off the exact error y.
-- Times u·b, the new weight and the exact one are u·b apart at most for the cut of c, and the rest for J and Z.
weight_core : (w c J a Z y : ℤ) (M u b s t x h : ℕ) → nat_abs (J *ℤ pos s *ℤ a -ℤ c *ℤ pos u) < u → nat_abs (pos M *ℤ Z -ℤ J *ℤ pos t) < t →
    nat_abs (Z *ℤ pos h -ℤ y) < h → s * b ≡ t * (x * h) →
    nat_abs ((w +ℤ c) *ℤ pos (u * b) -ℤ (w *ℤ pos (u * b) +ℤ pos M *ℤ (a *ℤ pos x) *ℤ y)) ≤ u * b + nat_abs a * (s * b) + M * (x * h) * nat_abs a
weight_core w c J a Z y M u b s t x h cut_c cut_J off_Z e = bound
  where
    cut_off : ℤ
    cut_off = J *ℤ pos s *ℤ a -ℤ c *ℤ pos u

    factor_off : ℤ
    factor_off = pos M *ℤ Z -ℤ J *ℤ pos t

    error_off : ℤ
    error_off = Z *ℤ pos h -ℤ y

    apart : ℤ
    apart = (w +ℤ c) *ℤ pos (u * b) -ℤ (w *ℤ pos (u * b) +ℤ pos M *ℤ (a *ℤ pos x) *ℤ y)

    by_error : ℤ
    by_error = pos M *ℤ (a *ℤ pos x) *ℤ error_off

    by_factor : ℤ
    by_factor = factor_off *ℤ (a *ℤ pos (x * h))

    at_scale : ℕ → ℤ
    at_scale n = J *ℤ a *ℤ pos n -ℤ (cut_off *ℤ pos b +ℤ pos M *ℤ (a *ℤ pos x) *ℤ y)

    same : apart ≡ by_error -ℤ (cut_off *ℤ pos b +ℤ by_factor)
    same =
        ring (w ∷ c ∷ J ∷ a ∷ pos M ∷ y ∷ pos u ∷ pos b ∷ pos s ∷ pos x ∷ []) {y = at_scale (s * b)} (search terms depth 40) tt
        ∙ ap at_scale e
        ∙ ring (cut_off ∷ pos b ∷ J ∷ a ∷ Z ∷ y ∷ pos M ∷ pos t ∷ pos x ∷ pos h ∷ []) (search terms depth 40) tt

    by_error_small : nat_abs by_error ≤ M * (x * h) * nat_abs a
    by_error_small = omega (
      arith,
      abs_mul (pos M *ℤ (a *ℤ pos x)) error_off,
      ap (λ (n : ℕ). n * nat_abs error_off) (abs_mul (pos M) (a *ℤ pos x)),
      ap (λ (n : ℕ). M * n * nat_abs error_off) (abs_mul a (pos x)),
      mul-le-mul_left (M * x * nat_abs a) (le_of_lt off_Z),
    )

    by_factor_small : nat_abs by_factor ≤ nat_abs a * (s * b)
    by_factor_small = omega (
      arith,
      abs_mul factor_off (a *ℤ pos (x * h)),
      ap (λ (n : ℕ). nat_abs factor_off * n) (abs_mul a (pos (x * h))),
      ap (λ (n : ℕ). nat_abs a * n) e,
      mul-le-mul_right (nat_abs a * (x * h)) (le_of_lt cut_J),
    )

    bound : nat_abs apart ≤ u * b + nat_abs a * (s * b) + M * (x * h) * nat_abs a
    bound = omega (
      arith,
      ap nat_abs same,
      abs_sub by_error (cut_off *ℤ pos b +ℤ by_factor),
      abs_add (cut_off *ℤ pos b) by_factor,
      abs_mul cut_off (pos b),
      mul-le-mul_right b (le_of_lt cut_c),
      by_error_small,
      by_factor_small,
    )

-- a datum a with |a|·s < 2^data_unit, and M·x·h ≤ 4·s·b: the distance is at most u + 5·2^data_unit times b, where u is
-- 2^update_shift
weight_units : (w c J a Z y : ℤ) (M b s t x h : ℕ) → nat_abs (J *ℤ pos s *ℤ a -ℤ c *ℤ pos (2 ^ update_shift)) < 2 ^ update_shift → nat_abs (pos M *ℤ Z -ℤ J *ℤ pos t) < t →
    nat_abs (Z *ℤ pos h -ℤ y) < h → s * b ≡ t * (x * h) → nat_abs a * s < 2 ^ data_unit → M * (x * h) ≤ 4 * (s * b) →
    nat_abs ((w +ℤ c) *ℤ pos (2 ^ update_shift * b) -ℤ (w *ℤ pos (2 ^ update_shift * b) +ℤ pos M *ℤ (a *ℤ pos x) *ℤ y)) ≤ (2 ^ update_shift + 5 * 2 ^ data_unit) * b
weight_units w c J a Z y M b s t x h cut_c cut_J off_Z e l m = omega (
  arith,
  weight_core w c J a Z y M (2 ^ update_shift) b s t x h cut_c cut_J off_Z e,
  mul-le-mul_right b (le_of_lt l),
  mul-le-mul_right (nat_abs a) m,
)

-- ---- at the exponents

-- a new weight w, before step 7, and the exact one are at most 1 + 5·2^data_unit / 2^update_shift units of
-- 2^(ψ − weight_unit) apart
abbrev pub Close : ℕ → ℤ → ℤ → Type 0
Close ψ w e = nat_abs (raise w (weight_raise + ψ) -ℤ e) ≤ (2 ^ update_shift + 5 * 2 ^ data_unit) * 2 ^ (weight_raise - update_shift + ψ)

-- one weight of a filter, where Z is less than one of its units off the exact error y
pub weight_distance : (w a Z y : ℤ) (M ψ θ s x t : ℕ) → t + (x + θ) ≡ step_unit + received_unit + ψ + s → nat_abs a * 2 ^ s < 2 ^ data_unit →
    nat_abs (raise Z (θ + output_raise) -ℤ y) < 2 ^ (θ + output_raise) → M * (2 ^ x * 2 ^ θ) ≤ 2 ^ (step_unit + received_unit + 2) * (2 ^ ψ * 2 ^ s) →
    Close ψ (adapted (raise (cut (pos M *ℤ Z) t) s) w a) (raise w (weight_raise + ψ) +ℤ pos M *ℤ raise a x *ℤ y)
weight_distance w a Z y M ψ θ s x t e l off m =
    subst (λ (u : ℕ). nat_abs (adapted (raise (cut (pos M *ℤ Z) t) s) w a *ℤ pos u -ℤ (w *ℤ pos u +ℤ pos M *ℤ raise a x *ℤ y)) ≤ (2 ^ update_shift + 5 * 2 ^ data_unit) * 2 ^ (weight_raise - update_shift + ψ))
    (sym (split (weight_raise + ψ) update_shift (weight_raise - update_shift + ψ) (omega arith)))
    (weight_units w (cut (raise J s *ℤ a) update_shift) J a Z y M (2 ^ (weight_raise - update_shift + ψ)) (2 ^ s) (2 ^ t) (2 ^ x) (2 ^ (θ + output_raise))
    (cut_error (raise J s *ℤ a) update_shift) (cut_error (pos M *ℤ Z) t) off level l room)
  where
    J : ℤ
    J = cut (pos M *ℤ Z) t

    level : 2 ^ s * 2 ^ (weight_raise - update_shift + ψ) ≡ 2 ^ t * (2 ^ x * 2 ^ (θ + output_raise))
    level = sym (split (s + (weight_raise - update_shift + ψ)) s (weight_raise - update_shift + ψ) refl) ∙ split3 (s + (weight_raise - update_shift + ψ)) t x (θ + output_raise) (omega arith)

    room : M * (2 ^ x * 2 ^ (θ + output_raise)) ≤ 4 * (2 ^ s * 2 ^ (weight_raise - update_shift + ψ))
    room = omega (
      arith,
      mul-le-mul_right (2 ^ output_raise) m,
      ap (λ (n : ℕ). M * 2 ^ x * n) (split (θ + output_raise) θ output_raise refl),
      ap (λ (n : ℕ). 2 ^ s * n) (split (weight_raise - update_shift + ψ) (weight_raise - update_shift) ψ refl),
    )

-- w is 2·c, less than 2 off
halving_core : (w c e : ℤ) (u : ℕ) → nat_abs (w -ℤ c *ℤ pos 2) < 2 → nat_abs (c *ℤ pos (2 * u) -ℤ e) ≤ u + nat_abs (w *ℤ pos u -ℤ e)
halving_core w c e u h = omega (
  arith,
  ap nat_abs same,
  abs_sub (w *ℤ pos u -ℤ e) ((w -ℤ c *ℤ pos 2) *ℤ pos u),
  abs_mul (w -ℤ c *ℤ pos 2) (pos u),
  mul-le-mul_right u h,
)
  where
    same : c *ℤ pos (2 * u) -ℤ e ≡ (w *ℤ pos u -ℤ e) -ℤ (w -ℤ c *ℤ pos 2) *ℤ pos u
    same = ring (w ∷ c ∷ e ∷ pos u ∷ []) (search terms depth 40) tt

-- a halving counts in units twice as large
halving : (w e : ℤ) (ψ : ℕ) → Close ψ w e → Near (suc ψ) (suc ψ) (cut w 1) e
halving w e ψ h =
    subst (λ (u : ℕ). nat_abs (cut w 1 *ℤ pos u -ℤ e) * 1024 ≤ distance * u) (sym (split (weight_raise + suc ψ) 1 (weight_raise + ψ) (omega arith)))
    (omega (arith, halving_core w (cut w 1) e (2 ^ (weight_raise + ψ)) (cut_error w 1), split (weight_raise + ψ) update_shift (weight_raise - update_shift + ψ) (omega arith)))

-- a doubled weight means the same number, and no unit is smaller than the one before
doubling : (w e : ℤ) (ψ : ℕ) → 1 ≤ ψ → Close ψ w e → Near (unit_exponent double ψ) (ψ - 1) (raise w 1) e
doubling w e ψ l h =
    rw (raise_raise w 1 (weight_raise + (ψ - 1)) (weight_raise + ψ) (omega arith))
    (omega (arith, split (weight_raise + ψ) update_shift (weight_raise - update_shift + ψ) (omega arith), rises {a = weight_raise + ψ} {b = weight_raise + unit_exponent double ψ} (omega arith)))

pub normalised_near : (s : Outcome) (f b : List ℤ) (l : List ℤ) (n ψ : ℕ) (e : ℤ) → Says s ψ f b → Close ψ (get_or l n (pos 0)) e →
    Near (unit_exponent s ψ) (normalised_exponent s ψ) (get_or (normalised s l) n (pos 0)) e
normalised_near keep f b l n ψ e c h = omega (arith, split (weight_raise + ψ) update_shift (weight_raise - update_shift + ψ) (omega arith))
normalised_near halve f b l n ψ e c h = subst (λ (w : ℤ). Near (suc ψ) (suc ψ) w e) (sym (halved_at l n)) (halving (get_or l n (pos 0)) e ψ h)
normalised_near double f b l n ψ e c h = subst (λ (w : ℤ). Near (unit_exponent double ψ) (ψ - 1) w e) (sym (doubled_at l n)) (doubling (get_or l n (pos 0)) e ψ c.0 h)
