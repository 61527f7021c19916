-- |J| is at most half of 2^output_unit, by the step admission.
use mathlib.Core.Path.{◌≡◌, refl, ap}
use Prim.Native.Nat.{ℕ, ◌+◌, ◌*◌, ◌-◌, ◌^◌, ◌≤◌}
use native.Mathlib.Omega.{arith}
use native.Mathlib.Nat.{mul-le-mul_left, mul-le-mul_right}
use lib.IntN.{ℤ, pos, nat_abs, ◌*ℤ◌}
use Rattle.laws.specs.Integers.{abs_mul}
use Rattle.laws.specs.Powers.{split, split3, below, cancel_le}
use Rattle.numbers.proofs.CutLaws.{cut_scaled}
use Rattle.steps.specs.Limits.{output_unit, step_unit, received_unit, length_limit}
use Rattle.steps.specs.Settings.{Settings}
use Rattle.steps.specs.Sound.{Admitted}
use Rattle.steps.specs.Fir.{Fir, factor, factor_shift}
use Rattle.steps.proofs.Admission.{AtMostError, admission}

-- ---- over letters: a is 2^r, l is 2^L, and Ψ, Θ, Ξ are the powers of ψ, θ, ξ

-- the error, from what it is made of
pub error_weighed : (z Θ v y Ξ Ψ f h l p q a : ℕ) → z * Θ ≤ v * 2 ^ output_unit + y * Ξ → y * (Ξ * 2 ^ received_unit) ≤ Ψ * (f + h) →
    f * l ≤ p * (a * 2 ^ (output_unit + received_unit)) → h ≤ q * (a * 2 ^ (output_unit + received_unit)) → v ≤ 2 * a → 1 ≤ Ψ →
    z * Θ * (2 ^ received_unit * l) ≤ Ψ * (a * 2 ^ (output_unit + received_unit - 2)) * (8 * l + 4 * p + 4 * q * l)
error_weighed z Θ v y Ξ Ψ f h l p q a e o fl hl vl one =
    omega (
      arith,
      mul-le-mul_right (2 ^ received_unit * l) e,
      mul-le-mul_right l o,
      mul-le-mul_left Ψ fl,
      mul-le-mul_right (Ψ * l) hl,
      mul-le-mul_right (2 ^ (output_unit + received_unit) * l) vl,
      mul-le-mul_right (2 ^ (output_unit + received_unit + 1) * (a * l)) one,
    )

-- ---- J of a filter

pub factor_small : (k : Settings) (f : Fir) (Z : ℤ) (ψ θ : ℕ) → Admitted k → f.exponent ≤ k.r + length_limit + f.scale → f.exponent + θ ≤ step_unit + received_unit + ψ + f.scale →
    AtMostError k ψ θ (nat_abs Z) → nat_abs (factor k.M Z ψ θ f) ≤ 2 ^ (output_unit - 1)
factor_small k f Z ψ θ d x h e = cancel_le (step_unit + received_unit + ψ + f.scale) (core (nat_abs (factor k.M Z ψ θ f)) (2 ^ factor_shift ψ θ f)
    (omega (arith, cut_scaled (pos k.M *ℤ Z) (factor_shift ψ θ f), abs_mul (pos k.M) Z)) (admission k f.exponent f.scale ψ θ (nat_abs Z) d x e)
    (below h) (split (f.exponent + θ) f.exponent θ refl) (split3 (step_unit + received_unit + ψ + f.scale) (step_unit + received_unit) ψ f.scale (omega arith)))
  where
    core : {E P : ℕ} (j T : ℕ) → j * T ≤ k.M * nat_abs Z → k.M * nat_abs Z * (2 ^ f.exponent * 2 ^ θ) ≤ 2 ^ (step_unit + received_unit + output_unit - 1) * (2 ^ ψ * 2 ^ f.scale) →
        P ≡ T * E → E ≡ 2 ^ f.exponent * 2 ^ θ → P ≡ 2 ^ (step_unit + received_unit) * (2 ^ ψ * 2 ^ f.scale) → j * P ≤ 2 ^ (output_unit - 1) * P
    core {E} j T b w p e q = omega (arith, mul-le-mul_right (2 ^ f.exponent * 2 ^ θ) b, ap (λ (n : ℕ). j * n) p, ap (λ (n : ℕ). j * (T * n)) e)
