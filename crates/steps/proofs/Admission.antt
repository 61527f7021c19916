-- The step admission, as the bounds of a step use it.
use mathlib.Core.Path.{◌≡◌, refl, ap}
use Prim.Native.Nat.{ℕ, ◌+◌, ◌*◌, ◌-◌, ◌^◌, ◌≤◌}
use native.Mathlib.Omega.{arith}
use native.Mathlib.Nat.{mul-le-mul, mul-le-mul_left, le_of_mul-le-mul_right}
use Rattle.laws.specs.Powers.{split, split3, split4, rises, positive}
use Rattle.steps.specs.Limits.{output_unit, step_unit, received_unit, length_limit}
use Rattle.steps.specs.Settings.{Settings, step_bound}
use Rattle.steps.specs.Sound.{Admitted}

-- D·2^L with the powers split
step_bound_lem : (k : Settings) →
    step_bound k ≡ 8 * (2 ^ k.r * (2 ^ k.r * 2 ^ k.L)) + k.p * (4 * (2 ^ k.r * 2 ^ k.r)) + k.q * (4 * (2 ^ k.r * (2 ^ k.r * 2 ^ k.L)))
step_bound_lem k = omega (
  arith,
  split4 (2 * k.r + 3 + k.L) 3 k.r k.r k.L (omega arith),
  ap (λ (n : ℕ). k.p * n) (split3 (2 * k.r + 2) 2 k.r k.r (omega arith)),
  ap (λ (n : ℕ). k.q * n) (split4 (2 * k.r + 2 + k.L) 2 k.r k.r k.L (omega arith)),
)

-- a magnitude z at the exponent θ is no more than an error can be
abbrev pub AtMostError : Settings → ℕ → ℕ → ℕ → Type 0
AtMostError k ψ θ z =
    z * 2 ^ θ * (2 ^ received_unit * 2 ^ k.L) ≤ 2 ^ ψ * (2 ^ k.r * 2 ^ (output_unit + received_unit - 2)) * (8 * 2 ^ k.L + 4 * k.p + 4 * k.q * 2 ^ k.L)

-- over letters: a is 2^r, l is 2^L, and Ψ, Θ, X and S are the powers of ψ, θ, x and s
admission_core : (z Θ M X S Ψ l p q a : ℕ) → z * Θ * (2 ^ received_unit * l) ≤ Ψ * (a * 2 ^ (output_unit + received_unit - 2)) * (8 * l + 4 * p + 4 * q * l) →
    X ≤ a * 2 ^ length_limit * S → M * (8 * (a * (a * l)) + p * (4 * (a * a)) + q * (4 * (a * (a * l)))) ≤ 2 ^ step_unit * l → 1 ≤ l →
    M * z * (X * Θ) ≤ 2 ^ (step_unit + received_unit + output_unit - 1) * (Ψ * S)
admission_core z Θ M X S Ψ l p q a e x d one =
    le_of_mul-le-mul_right {k = 2 ^ received_unit * l} (omega (arith, mul-le-mul (mul-le-mul_left M e) x, mul-le-mul_left (2 ^ (step_unit + received_unit + output_unit - 1) * (Ψ * S)) d)) (omega arith)

-- the step times it: M·z·2^(x + θ) ≤ 2^(step_unit + received_unit + output_unit − 1)·2^(ψ + s)
pub admission : (k : Settings) (x s ψ θ z : ℕ) → Admitted k → x ≤ k.r + length_limit + s → AtMostError k ψ θ z →
    k.M * z * (2 ^ x * 2 ^ θ) ≤ 2 ^ (step_unit + received_unit + output_unit - 1) * (2 ^ ψ * 2 ^ s)
admission k x s ψ θ z d l e =
    admission_core z (2 ^ θ) k.M (2 ^ x) (2 ^ s) (2 ^ ψ) (2 ^ k.L) k.p k.q (2 ^ k.r) e
    (omega (arith, rises l, split3 (k.r + length_limit + s) k.r length_limit s (omega arith)))
    (omega (arith, d, ap (λ (n : ℕ). k.M * n) (step_bound_lem k), split (step_unit + k.L) step_unit k.L refl))
    (positive k.L)
