-- Bounds of the output and of the error, each in its own unit and at a common scale.
use mathlib.Core.Path.{◌≡◌, refl, sym, ap, ◌∙◌}
use Prim.Native.Nat.{ℕ, ◌+◌, ◌*◌, ◌-◌, ◌^◌, ◌≤◌, ◌<◌, max}
use native.Mathlib.Omega.{arith}
use native.Mathlib.Nat.{mul-le-mul_left, mul-le-mul_right, sub-add-eq-max, max_comm, le-max_left, le-max_right}
use lib.IntN.{ℤ, nat_abs}
use Rattle.laws.specs.Integers.{abs_add, abs_sub}
use Rattle.laws.specs.Powers.{split, scale_lt, rises, below}
use Rattle.numbers.specs.BitLength.{bit_length}
use Rattle.numbers.specs.Cut.{cut, raise}
use Rattle.numbers.proofs.BitLengthLaws.{bit_length_above}
use Rattle.numbers.proofs.CutLaws.{cut_le, cut_scaled, raise_abs}
use Rattle.steps.specs.Limits.{output_unit, received_unit}
use Rattle.steps.specs.Output.{output, output_exponent}
use Rattle.steps.specs.Error.{error, error_exponent}
use Rattle.steps.proofs.OutputLaws.{output_form, output_exponent_form, error_form, error_exponent_form}

-- a number cut by d bits, at the scale that is d higher
cut_up : (z : ℤ) (d a c : ℕ) → c ≡ d + a → nat_abs (cut z d) * 2 ^ c ≤ nat_abs z * 2 ^ a
cut_up z d a c e = omega (arith, mul-le-mul_right (2 ^ a) (cut_scaled z d), ap (λ (n : ℕ). nat_abs (cut z d) * n) (split c d a e))

-- ---- the output

output_parts : (F H : ℤ) (Γ ν : ℕ) → nat_abs (output F H Γ ν) ≤ nat_abs (cut F (ν + received_unit - Γ)) + nat_abs (cut H (Γ - (ν + received_unit)))
output_parts F H Γ ν = rw (output_form F H Γ ν) (abs_add (cut F (ν + received_unit - Γ)) (cut H (Γ - (ν + received_unit))))

-- a cut never grows a magnitude
pub output_small : (F H : ℤ) (Γ ν : ℕ) → nat_abs (output F H Γ ν) ≤ nat_abs F + nat_abs H
output_small F H Γ ν = omega (arith, output_parts F H Γ ν, cut_le F (ν + received_unit - Γ), cut_le H (Γ - (ν + received_unit)))

-- |Y|·2^(ξ + received_unit) ≤ 2^ψ·(|F|·2^Γ + |H|·2^(ν + received_unit))
pub output_scaled : (F H : ℤ) (ψ Γ ν : ℕ) →
    nat_abs (output F H Γ ν) * 2 ^ (output_exponent ψ Γ ν + received_unit) ≤ 2 ^ ψ * (nat_abs F * 2 ^ Γ + nat_abs H * 2 ^ (ν + received_unit))
output_scaled F H ψ Γ ν = joined (nat_abs (cut F (ν + received_unit - Γ))) (nat_abs (cut H (Γ - (ν + received_unit)))) (2 ^ ψ) (2 ^ max Γ (ν + received_unit))
    (output_parts F H Γ ν)
    (cut_up F (ν + received_unit - Γ) Γ (max Γ (ν + received_unit)) (sym (sub-add-eq-max (ν + received_unit) Γ ∙ max_comm (ν + received_unit) Γ)))
    (cut_up H (Γ - (ν + received_unit)) (ν + received_unit) (max Γ (ν + received_unit)) (sym (sub-add-eq-max Γ (ν + received_unit))))
    (split (output_exponent ψ Γ ν + received_unit) ψ (max Γ (ν + received_unit)) (output_exponent_form ψ Γ ν))
  where
    joined : {y f h e : ℕ} (a b p c : ℕ) → y ≤ a + b → a * c ≤ f → b * c ≤ h → e ≡ p * c → y * e ≤ p * (f + h)
    joined {y = y} a b p c l m n e = omega (arith, mul-le-mul_right (p * c) l, mul-le-mul_left p m, mul-le-mul_left p n, ap (λ (x : ℕ). y * x) e)

-- ---- the error

error_parts : (v Y : ℤ) (ξ κ : ℕ) → nat_abs (error v Y ξ κ) ≤ nat_abs v * 2 ^ (output_unit - error_exponent ξ κ) + nat_abs (cut Y (error_exponent ξ κ - ξ))
error_parts v Y ξ κ =
    rw (error_form v Y ξ κ)
    (omega (arith, abs_sub (raise v (output_unit - error_exponent ξ κ)) (cut Y (error_exponent ξ κ - ξ)), raise_abs v (output_unit - error_exponent ξ κ)))

-- |v|·2^(output_unit − θ) < 2^(output_unit − S'), and the rest is at most |Y|
pub error_small : (v Y : ℤ) (ξ s : ℕ) → 1 ≤ s → error_exponent ξ (s + bit_length (nat_abs v)) ≤ output_unit → nat_abs Y < 2 ^ (output_unit - 1) →
    nat_abs (error v Y ξ (s + bit_length (nat_abs v))) < 2 ^ output_unit
error_small v Y ξ s h m l = go (error_exponent ξ (s + bit_length (nat_abs v))) (error_parts v Y ξ (s + bit_length (nat_abs v))) m
    (omega (arith, error_exponent_form ξ (s + bit_length (nat_abs v)), le-max_left (s + bit_length (nat_abs v)) ξ))
  where
    part : (θ : ℕ) → θ ≤ output_unit → s + bit_length (nat_abs v) ≤ θ → nat_abs v * 2 ^ (output_unit - θ) < 2 ^ (output_unit - 1)
    part θ m k = omega (arith, scale_lt (output_unit - θ) (bit_length_above (nat_abs v)), split (bit_length (nat_abs v) + (output_unit - θ)) (bit_length (nat_abs v)) (output_unit - θ) refl, rises {a = bit_length (nat_abs v) + (output_unit - θ)} {b = output_unit - 1} (omega arith))

    go : (θ : ℕ) → nat_abs (error v Y ξ (s + bit_length (nat_abs v))) ≤ nat_abs v * 2 ^ (output_unit - θ) + nat_abs (cut Y (θ - ξ)) → θ ≤ output_unit →
        s + bit_length (nat_abs v) ≤ θ → nat_abs (error v Y ξ (s + bit_length (nat_abs v))) < 2 ^ output_unit
    go θ b m k = omega (arith, part θ m k, cut_le Y (θ - ξ))

-- |Z|·2^θ ≤ |v|·2^output_unit + |Y|·2^ξ
pub error_scaled : (v Y : ℤ) (ξ κ : ℕ) → error_exponent ξ κ ≤ output_unit →
    nat_abs (error v Y ξ κ) * 2 ^ error_exponent ξ κ ≤ nat_abs v * 2 ^ output_unit + nat_abs Y * 2 ^ ξ
error_scaled v Y ξ κ m = go (error_exponent ξ κ) (error_parts v Y ξ κ) m (omega (arith, error_exponent_form ξ κ, le-max_right κ ξ))
  where
    go : (θ : ℕ) → nat_abs (error v Y ξ κ) ≤ nat_abs v * 2 ^ (output_unit - θ) + nat_abs (cut Y (θ - ξ)) → θ ≤ output_unit → ξ ≤ θ →
        nat_abs (error v Y ξ κ) * 2 ^ θ ≤ nat_abs v * 2 ^ output_unit + nat_abs Y * 2 ^ ξ
    go θ b m k = omega (arith, mul-le-mul_right (2 ^ θ) b, cut_up Y (θ - ξ) ξ θ (omega arith), ap (λ (n : ℕ). nat_abs v * n) (below m))
