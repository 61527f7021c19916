-- The new weights of a filter and the exact ones.
use mathlib.Core.Path.{◌≡◌, refl}
use Prim.Native.Nat.{ℕ, ◌+◌, ◌*◌, ◌-◌, ◌^◌, ◌≤◌, ◌<◌, max}
use native.Mathlib.Omega.{arith}
use native.Mathlib.Nat.{mul-le-mul_left, mul-le-mul_right}
use native.Mathlib.Decide.{dec_le}
use lib.ListN.{length, get_or}
use lib.IntN.{ℤ, pos, nat_abs, ◌-ℤ◌}
use Rattle.laws.specs.Powers.{split, split4, rises}
use Rattle.laws.specs.Sums.{each_at}
use Rattle.numbers.specs.Cut.{raise}
use Rattle.numbers.proofs.ScaleCountLaws.{scale_below}
use Rattle.steps.specs.Limits.{data_unit, output_unit, step_unit, received_unit, exact_unit, output_raise, symbol_limit, output_exponent_limit, length_limit}
use Rattle.steps.specs.Settings.{Settings, scale_forward, scale_back}
use Rattle.steps.specs.Sound.{Within, Admitted}
use Rattle.steps.specs.Fir.{Fir, new_weights, factor, factor_shift}
use Rattle.filter.specs.Sample.{exact_weight}
use Rattle.steps.proofs.Admission.{AtMostError, admission}
use Rattle.steps.proofs.FirLaws.{adapt_at}
use Rattle.filter.proofs.FirBounds.{FirFit}
use Rattle.filter.proofs.DistanceWeight.{Close, weight_distance}

-- each new weight, where Z is less than one of its units off v − y, and M·2^(x+θ) as large as the admission lets it be
pub fir_distance : {r n : ℕ} (f : Fir) → FirFit r n f → (M ψ θ : ℕ) (Z v y : ℤ) → r ≤ symbol_limit → θ ≤ output_exponent_limit →
    nat_abs (raise Z (θ + output_raise) -ℤ (raise v exact_unit -ℤ y)) < 2 ^ (θ + output_raise) → M * (2 ^ f.exponent * 2 ^ θ) ≤ 2 ^ (step_unit + received_unit + 2) * (2 ^ ψ * 2 ^ f.scale) → (i : ℕ) → i < length f.weights →
    Close ψ (get_or (new_weights (factor M Z ψ θ f) f) i (pos 0)) (exact_weight M ψ y v (get_or f.mantissas i (pos 0)) f.exponent (get_or f.weights i (pos 0)))
fir_distance f h M ψ θ Z v y l m off e i j =
    rw (adapt_at (raise (factor M Z ψ θ f) f.scale) f.weights f.mantissas i j (omega (arith, h.weights_long, h.mantissas_long)))
    (weight_distance (get_or f.weights i (pos 0)) (get_or f.mantissas i (pos 0)) Z (raise v exact_unit -ℤ y) M ψ θ f.scale f.exponent (factor_shift ψ θ f)
    (omega (arith, h.exponent_most))
    (each_at (λ (a : ℤ). nat_abs a * 2 ^ f.scale < 2 ^ data_unit) f.mantissas i (pos 0) h.mantissas_small (omega (arith, h.weights_long, h.mantissas_long)))
    off e)

-- an eighth of 2^output_unit at the exponent θ is no more than an error can be
unit_core : (Θ l Ψ a m p q : ℕ) → Θ * l ≤ Ψ * (m * (a * 2)) → m ≤ 4 * p + 4 * q * l → 2 ^ (output_unit - 3) * Θ * (2 ^ received_unit * l) ≤ Ψ * (a * 2 ^ (output_unit + received_unit - 2)) * (8 * l + 4 * p + 4 * q * l)
unit_core Θ l Ψ a m p q h e = omega (arith, mul-le-mul_left (2 ^ (output_unit + received_unit - 3)) h, mul-le-mul_left (Ψ * a * 2 ^ (output_unit + received_unit - 2)) e)

-- θ is S' + bits of v, ψ + ν or ψ + Γ − received_unit: so M·2^(x+θ) ≤ 2^(step_unit + received_unit + 2 + ψ + s), in each
-- filter
pub step_small : (k : Settings) → Within k → Admitted k → {n : ℕ} (f : Fir) → FirFit k.r n f → (ψ Γ ν κ ξ θ : ℕ) → θ ≡ max κ ξ → ξ + received_unit ≡ ψ + max Γ (ν + received_unit) →
    κ ≤ scale_back k + (k.r + 1) → ν ≤ scale_back k + (k.r + 1) → Γ + k.L ≤ k.r + length_limit + scale_forward k →
    k.M * (2 ^ f.exponent * 2 ^ θ) ≤ 2 ^ (step_unit + received_unit + 2) * (2 ^ ψ * 2 ^ f.scale)
step_small k w a f h ψ Γ ν κ ξ θ e d l m b = omega (arith, admission k f.exponent f.scale ψ θ (2 ^ (output_unit - 3)) a h.exponent_most (go (dec_le θ (ψ + (scale_back k + (k.r + 1))))))
  where
    high : (c S : ℕ) → θ + c ≤ ψ + (S + (k.r + 1)) → 2 ^ θ * 2 ^ c ≤ 2 ^ ψ * (2 ^ S * (2 ^ k.r * 2))
    high c S h = omega (arith, rises h, split (θ + c) θ c refl, split4 (ψ + (S + (k.r + 1))) ψ S k.r 1 refl)

    go : Dec (θ ≤ ψ + (scale_back k + (k.r + 1))) →
        AtMostError k ψ θ (2 ^ (output_unit - 3))
    go (yes c) = unit_core (2 ^ θ) (2 ^ k.L) (2 ^ ψ) (2 ^ k.r) (2 ^ scale_back k * 2 ^ k.L) k.p k.q
        (omega (arith, mul-le-mul_right (2 ^ k.L) (high 0 (scale_back k) (omega arith))))
        (omega (arith, mul-le-mul_right (2 ^ k.L) (scale_below k.q w.q_least)))
    go (no c) = unit_core (2 ^ θ) (2 ^ k.L) (2 ^ ψ) (2 ^ k.r) (2 ^ scale_forward k) k.p k.q
        (high k.L (scale_forward k) (omega arith))
        (omega (arith, scale_below k.p w.p_least))
