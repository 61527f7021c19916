-- The output and the error, each less than one of its units off the exact one.
use mathlib.Core.Path.{◌≡◌, sym, ap, ap₂, ◌∙◌, subst}
use mathlib.Core.List.{[], ◌∷◌}
use Prim.Native.Nat.{ℕ, ◌+◌, ◌*◌, ◌-◌, ◌^◌, ◌≤◌, ◌<◌, max}
use native.Mathlib.Omega.{arith}
use native.Mathlib.Nat.{mul-le-mul_right, max-eq_left, max-eq_right, le_of_lt, lt_of_not-le}
use native.Mathlib.Decide.{dec_le}
use lib.IntN.{ℤ, pos, neg_ℤ, nat_abs, ◌+ℤ◌, ◌-ℤ◌, ◌*ℤ◌}
use Rattle.laws.specs.Integers.{abs_add, abs_sub, abs_mul, abs_neg}
use Rattle.laws.specs.Powers.{split, same, positive}
use Rattle.laws.specs.Ring.{ring, terms}
use Rattle.numbers.specs.Cut.{cut, raise}
use Rattle.numbers.proofs.CutLaws.{cut_error, raise_raise}
use Rattle.steps.specs.Limits.{output_unit, received_unit, exact_unit, output_raise}
use Rattle.steps.specs.Output.{output, output_exponent}
use Rattle.steps.specs.Error.{error, error_exponent}
use Rattle.steps.proofs.OutputLaws.{output_form, output_exponent_form, error_form, error_exponent_form}

-- ---- over plain letters

-- f and h are F / i and H / j, less than 1 off; of the units a·p and b·p of F and H the greater is m·p
output_core : (F H f h : ℤ) (a b i j p m : ℕ) → nat_abs (F -ℤ f *ℤ pos i) < i → nat_abs (H -ℤ h *ℤ pos j) < j →
    m ≡ i * a → m ≡ j * b → m < a + b → 1 ≤ p →
    nat_abs ((f +ℤ h) *ℤ pos (p * m) -ℤ (F *ℤ pos a +ℤ H *ℤ pos b) *ℤ pos p) < p * m
output_core F H f h a b i j p m x y d e l q = bound
  where
    off : ℤ
    off = (F -ℤ f *ℤ pos i) *ℤ pos a +ℤ (H -ℤ h *ℤ pos j) *ℤ pos b

    spread : (f +ℤ h) *ℤ pos (p * m) ≡ f *ℤ pos (p * (i * a)) +ℤ h *ℤ pos (p * (j * b))
    spread =
        ring (f ∷ h ∷ pos (p * m) ∷ []) (search terms depth 40) tt
        ∙ ap₂ (λ (m n : ℕ). f *ℤ pos (p * m) +ℤ h *ℤ pos (p * n)) d e

    same : (f +ℤ h) *ℤ pos (p * m) -ℤ (F *ℤ pos a +ℤ H *ℤ pos b) *ℤ pos p ≡ neg_ℤ (off *ℤ pos p)
    same =
        ap (λ (z : ℤ). z -ℤ (F *ℤ pos a +ℤ H *ℤ pos b) *ℤ pos p) spread
        ∙ ring (F ∷ H ∷ f ∷ h ∷ pos a ∷ pos b ∷ pos i ∷ pos j ∷ pos p ∷ []) (search terms depth 40) tt

    off_small : nat_abs off < m
    off_small = omega (
      arith,
      abs_add ((F -ℤ f *ℤ pos i) *ℤ pos a) ((H -ℤ h *ℤ pos j) *ℤ pos b),
      abs_mul (F -ℤ f *ℤ pos i) (pos a),
      abs_mul (H -ℤ h *ℤ pos j) (pos b),
      mul-le-mul_right a x,
      mul-le-mul_right b y,
    )

    bound : nat_abs ((f +ℤ h) *ℤ pos (p * m) -ℤ (F *ℤ pos a +ℤ H *ℤ pos b) *ℤ pos p) < p * m
    bound = omega (arith, ap nat_abs same, abs_neg (off *ℤ pos p), abs_mul off (pos p), mul-le-mul_right p off_small)

-- c is Y / d, less than 1 off, and Y in units of x is less than one unit off y; n is v in the units d·x of Z
error_core : (n c Y y : ℤ) (d x : ℕ) → nat_abs (Y -ℤ c *ℤ pos d) < d → nat_abs (Y *ℤ pos x -ℤ y) < x →
    nat_abs ((n -ℤ c) *ℤ pos (d * x) -ℤ (n *ℤ pos (d * x) -ℤ y)) < d * x
error_core n c Y y d x h l = omega (
  arith,
  ap nat_abs same,
  abs_sub ((Y -ℤ c *ℤ pos d) *ℤ pos x) (Y *ℤ pos x -ℤ y),
  abs_mul (Y -ℤ c *ℤ pos d) (pos x),
  mul-le-mul_right x h,
)
  where
    same : (n -ℤ c) *ℤ pos (d * x) -ℤ (n *ℤ pos (d * x) -ℤ y) ≡ (Y -ℤ c *ℤ pos d) *ℤ pos x -ℤ (Y *ℤ pos x -ℤ y)
    same = ring (n ∷ c ∷ Y ∷ y ∷ pos d ∷ pos x ∷ []) (search terms depth 40) tt

-- ---- at the exponents

max_below : (a b : ℕ) → 2 ^ max a b < 2 ^ a + 2 ^ b
max_below a b = go (dec_le a b)
  where
    go : Dec (a ≤ b) → 2 ^ max a b < 2 ^ a + 2 ^ b
    go (yes l) = omega (arith, same (max a b) b (max-eq_right l), positive a)
    go (no l) = omega (arith, same (max a b) a (max-eq_left (le_of_lt (lt_of_not-le l))), positive b)

-- |y − y*| < 2^(ξ − output_unit), where F and H are in the output's unit
pub output_distance : (F H : ℤ) (ψ Γ ν : ℕ) →
    nat_abs (raise (output F H Γ ν) (output_exponent ψ Γ ν + received_unit) -ℤ raise (raise F Γ +ℤ raise H (ν + received_unit)) ψ) < 2 ^ (output_exponent ψ Γ ν + received_unit)
output_distance F H ψ Γ ν =
    rw (output_form F H Γ ν)
    (subst (λ (u : ℕ). nat_abs ((cut F (ν + received_unit - Γ) +ℤ cut H (Γ - (ν + received_unit))) *ℤ pos u -ℤ raise (raise F Γ +ℤ raise H (ν + received_unit)) ψ) < u)
    (sym (split (output_exponent ψ Γ ν + received_unit) ψ (max Γ (ν + received_unit)) (output_exponent_form ψ Γ ν)))
    (output_core F H (cut F (ν + received_unit - Γ)) (cut H (Γ - (ν + received_unit))) (2 ^ Γ) (2 ^ (ν + received_unit)) (2 ^ (ν + received_unit - Γ)) (2 ^ (Γ - (ν + received_unit))) (2 ^ ψ) (2 ^ max Γ (ν + received_unit))
    (cut_error F (ν + received_unit - Γ)) (cut_error H (Γ - (ν + received_unit)))
    (split (max Γ (ν + received_unit)) (ν + received_unit - Γ) Γ (omega arith))
    (split (max Γ (ν + received_unit)) (Γ - (ν + received_unit)) (ν + received_unit) (omega arith))
    (max_below Γ (ν + received_unit)) (positive ψ)))

-- Z and v − y*, where Y is less than one of its units off y
pub error_distance : (v Y y : ℤ) (ξ κ : ℕ) → error_exponent ξ κ ≤ output_unit → nat_abs (raise Y (ξ + output_raise) -ℤ y) < 2 ^ (ξ + output_raise) →
    nat_abs (raise (error v Y ξ κ) (error_exponent ξ κ + output_raise) -ℤ (raise v exact_unit -ℤ y)) < 2 ^ (error_exponent ξ κ + output_raise)
error_distance v Y y ξ κ l h = rw (error_form v Y ξ κ) (go (error_exponent ξ κ) l (omega (arith, error_exponent_form ξ κ)))
  where
    go : (θ : ℕ) → θ ≤ output_unit → ξ ≤ θ → nat_abs (raise (raise v (output_unit - θ) -ℤ cut Y (θ - ξ)) (θ + output_raise) -ℤ (raise v exact_unit -ℤ y)) < 2 ^ (θ + output_raise)
    go θ top low =
        subst (λ (z : ℤ). nat_abs (raise (raise v (output_unit - θ) -ℤ cut Y (θ - ξ)) (θ + output_raise) -ℤ (z -ℤ y)) < 2 ^ (θ + output_raise)) (raise_raise v (output_unit - θ) (θ + output_raise) exact_unit (omega arith))
        (subst (λ (u : ℕ). nat_abs ((raise v (output_unit - θ) -ℤ cut Y (θ - ξ)) *ℤ pos u -ℤ (raise v (output_unit - θ) *ℤ pos u -ℤ y)) < u)
        (sym (split (θ + output_raise) (θ - ξ) (ξ + output_raise) (omega arith)))
        (error_core (raise v (output_unit - θ)) (cut Y (θ - ξ)) Y y (2 ^ (θ - ξ)) (2 ^ (ξ + output_raise)) (cut_error Y (θ - ξ)) h))
