-- The tests of the sizes and of the step admission, as bounds.
use mathlib.Core.Path.{◌≡◌, refl, sym, ap, ◌∙◌}
use mathlib.Core.Bool.{Bool, true, false, cond}
use Prim.Native.Nat.{ℕ, ◌+◌, ◌*◌, ◌^◌, ◌≤◌, ◌<◌}
use native.Mathlib.Omega.{arith}
use native.Mathlib.Nat.{mul-le-mul, mul-le-mul_left, le_of_lt}
use borrow.Author.Tests.{leb-true}
use Rattle.laws.specs.Powers.{split, rises, cancel_le}
use Rattle.laws.specs.Tests.{last_le}
use Rattle.steps.specs.Limits.{step_unit, tap_limit, block_limit, symbol_limit, gain_limit}
use Rattle.steps.specs.Settings.{Settings, given, step_bound}
use Rattle.steps.specs.Sound.{Within, Admitted}
use Rattle.state.specs.Sizes.{sizes_fit, admits, settings_number}

-- ---- sizes

pub fit_within : (k : Settings) → sizes_fit k ≡ true → Within k
fit_within k e =
    let L = last_le _ k.L gain_limit e in
    let r = last_le _ k.r symbol_limit L.0 in
    let N = last_le _ k.N block_limit r.0 in
    let w = last_le _ k.p (k.N + 1) N.0 in
    let n = last_le _ 1 k.N w.0 in
    let Q = last_le _ k.q tap_limit n.0 in
    let q = last_le _ 1 k.q Q.0 in
    let p = last_le _ k.p tap_limit q.0 in
    record {
      p_least = leb-true 1 k.p p.0;
      p_most = p.1;
      q_least = q.1;
      q_most = Q.1;
      N_least = n.1;
      N_window = w.1;
      N_most = N.1;
      r_most = r.1;
      L_most = L.1;
    }

-- ---- the step admission

pub admits_admitted : (k : Settings) → admits k ≡ true → Admitted k
admits_admitted k e = leb-true (k.M * step_bound k) (2 ^ (step_unit + k.L)) e

-- M-as-D ≤ 2^step_unit, both sides times 2^L
step_most_lem : (m d L : ℕ) → 2 ^ L ≤ d → m * d ≤ 2 ^ (step_unit + L) → m ≤ 2 ^ step_unit
step_most_lem m d L h k = cancel_le L (omega (arith, mul-le-mul_left m h, split (step_unit + L) step_unit L refl))

-- an admitted M has 32 bits
pub step_bits : (k : Settings) → Admitted k → k.M < 2 ^ 32
step_bits k h = omega (arith, step_most_lem k.M (step_bound k) k.L (omega (arith, rises {a = k.L} {b = 2 * k.r + 3 + k.L} (omega arith))) h)

-- D·2^L at the limits
abbrev pub step_most : ℕ
step_most = step_bound (given tap_limit tap_limit block_limit symbol_limit gain_limit 0)

-- the terms of D·2^L, their sum, and its product with an M of 32 bits
module _ (k : Settings) (h : Within k) where
  pub terms_most : (2 ^ (2 * k.r + 3 + k.L) ≤ 2 ^ (2 * symbol_limit + 3 + gain_limit)) × (k.p * 2 ^ (2 * k.r + 2) ≤ tap_limit * 2 ^ (2 * symbol_limit + 2))
      × (k.q * 2 ^ (2 * k.r + 2 + k.L) ≤ tap_limit * 2 ^ (2 * symbol_limit + 2 + gain_limit))
  terms_most = (
    rises {a = 2 * k.r + 3 + k.L} {b = 2 * symbol_limit + 3 + gain_limit} (omega arith),
    mul-le-mul h.p_most (rises {a = 2 * k.r + 2} {b = 2 * symbol_limit + 2} (omega arith)),
    mul-le-mul h.q_most (rises {a = 2 * k.r + 2 + k.L} {b = 2 * symbol_limit + 2 + gain_limit} (omega arith)),
  )

  pub bound_most : step_bound k ≤ step_most
  bound_most = omega (arith, terms_most)

  pub product_most : k.M < 2 ^ 32 → k.M * step_bound k ≤ 2 ^ 32 * step_most
  product_most m = mul-le-mul (le_of_lt m) bound_most

-- ---- the number of a refusal

pub settings_refused : (k : Settings) → sizes_fit k ≡ false → settings_number k ≡ 1
unfolding settings_number
settings_refused k e = rw e

pub settings_number_lem : (k : Settings) → sizes_fit k ≡ true → settings_number k ≡ cond (admits k) 0 2
unfolding settings_number
settings_number_lem k e = rw e

pub settings_pass : (k : Settings) → sizes_fit k ≡ true → admits k ≡ true → settings_number k ≡ 0
settings_pass k f a = settings_number_lem k f ∙ ap (λ (b : Bool). cond b 0 2) a

two : (a b : Bool) → ◌≡◌ {A = ℕ} (cond a (cond b 0 2) 1) 0 → (a ≡ true) × (b ≡ true)
two true true e = (refl, refl)
two true false e = absurd (omega arith)
two false b e = absurd (omega arith)

pub settings_tests : (k : Settings) → settings_number k ≡ 0 → (sizes_fit k ≡ true) × (admits k ≡ true)
unfolding settings_number
settings_tests k e = two (sizes_fit k) (admits k) e

pub passed_within : (k : Settings) → 0 ≡ settings_number k → Within k
passed_within k e = fit_within k (settings_tests k (sym e)).0
