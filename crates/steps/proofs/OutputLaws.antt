-- The output and the error in one form each, whichever exponent is the larger: a cut by no bits changes nothing.
use mathlib.Core.Path.{◌≡◌, sym, ap, ap₂, ◌∙◌}
use Prim.Native.Nat.{ℕ, ◌+◌, ◌-◌, ◌≤◌, ◌<◌, max}
use native.Mathlib.Omega.{arith}
use native.Mathlib.Nat.{max-eq_left, max-eq_right, sub-add-eq-max, le_of_lt}
use native.Mathlib.Decide.{dec_lt}
use borrow.Author.Tests.{lt-ltb, le-ltb}
use lib.IntN.{ℤ, ◌+ℤ◌, ◌-ℤ◌, +ℤ_comm}
use Rattle.numbers.specs.Cut.{cut, raise}
use Rattle.numbers.proofs.CutLaws.{cut_none, rescale_up}
use Rattle.steps.specs.Limits.{data_unit, output_unit, received_unit, mantissa_unit}
use Rattle.steps.specs.Output.{output, output_exponent}
use Rattle.steps.specs.Error.{error, error_exponent}

-- a cut by a difference that is 0
cut_nothing : (z : ℤ) (a b : ℕ) → a ≤ b → cut z (a - b) ≡ z
cut_nothing z a b h = ap (cut z) (omega arith) ∙ cut_none z

-- Y: both sums are cut, one of them by no bits
pub output_form : (F H : ℤ) (Γ ν : ℕ) → output F H Γ ν ≡ cut F (ν + received_unit - Γ) +ℤ cut H (Γ - (ν + received_unit))
unfolding output
output_form F H Γ ν = go (dec_lt (ν + received_unit) Γ)
  where
    go : Dec (ν + received_unit < Γ) → output F H Γ ν ≡ cut F (ν + received_unit - Γ) +ℤ cut H (Γ - (ν + received_unit))
    go (yes h) = simp (lt-ltb (ν + received_unit) Γ h) (ap (λ (x : ℤ). x +ℤ cut H (Γ - (ν + received_unit))) (sym (cut_nothing F (ν + received_unit) Γ (le_of_lt h))))
    go (no h) = simp (le-ltb (ν + received_unit) Γ (omega arith)) (
        +ℤ_comm H (cut F (ν + received_unit - Γ)) ∙ ap (λ (x : ℤ). cut F (ν + received_unit - Γ) +ℤ x) (sym (cut_nothing H Γ (ν + received_unit) (omega arith))))

-- Y from the sum of weights times symbols, which loses nothing
pub output_raised : (F h : ℤ) (Γ ν : ℕ) → Γ ≤ mantissa_unit → ν ≤ data_unit → output F (raise h (data_unit - ν)) Γ ν ≡ cut F (max Γ (ν + received_unit) - Γ) +ℤ raise h (mantissa_unit - max Γ (ν + received_unit))
output_raised F h Γ ν l m =
    output_form F (raise h (data_unit - ν)) Γ ν
    ∙ ap₂ (λ (x y : ℤ). x +ℤ y)
    (ap (cut F) (omega (arith, sub-add-eq-max Γ (ν + received_unit))))
    (rescale_up h (data_unit - ν) (Γ - (ν + received_unit)) (mantissa_unit - max Γ (ν + received_unit)) (omega (arith, sub-add-eq-max Γ (ν + received_unit))))

-- ξ
pub output_exponent_form : (ψ Γ ν : ℕ) → output_exponent ψ Γ ν + received_unit ≡ ψ + max Γ (ν + received_unit)
unfolding output_exponent
output_exponent_form ψ Γ ν = go (dec_lt (ν + received_unit) Γ)
  where
    go : Dec (ν + received_unit < Γ) → output_exponent ψ Γ ν + received_unit ≡ ψ + max Γ (ν + received_unit)
    go (yes h) = simp (lt-ltb (ν + received_unit) Γ h) (omega (arith, sub-add-eq-max Γ (ν + received_unit)))
    go (no h) = simp (le-ltb (ν + received_unit) Γ (omega arith)) (omega (arith, sub-add-eq-max Γ (ν + received_unit)))

-- θ
pub error_exponent_form : (ξ κ : ℕ) → error_exponent ξ κ ≡ max κ ξ
unfolding error_exponent
error_exponent_form ξ κ = go (dec_lt ξ κ)
  where
    go : Dec (ξ < κ) → error_exponent ξ κ ≡ max κ ξ
    go (yes h) = simp (lt-ltb ξ κ h) (sym (max-eq_left (le_of_lt h)))
    go (no h) = simp (le-ltb ξ κ (omega arith)) (sym (max-eq_right (omega arith)))

-- Z
pub error_form : (v Y : ℤ) (ξ κ : ℕ) → error v Y ξ κ ≡ raise v (output_unit - error_exponent ξ κ) -ℤ cut Y (error_exponent ξ κ - ξ)
unfolding error error_exponent
error_form v Y ξ κ = go (dec_lt ξ κ)
  where
    go : Dec (ξ < κ) → error v Y ξ κ ≡ raise v (output_unit - error_exponent ξ κ) -ℤ cut Y (error_exponent ξ κ - ξ)
    go (yes h) = simp (lt-ltb ξ κ h)
    go (no h) = simp (le-ltb ξ κ (omega arith)) (ap (λ (x : ℤ). raise v (output_unit - ξ) -ℤ x) (sym (cut_nothing Y ξ ξ (omega arith))))
