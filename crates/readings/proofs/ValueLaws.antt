-- A mantissa times a power of two, without rounding.
use mathlib.Core.Path.{◌≡◌, refl, sym, ap, ap₂, ◌∙◌}
use mathlib.Core.Bool.{Bool, true, false}
use Prim.Native.Nat.{ℕ, zero, suc, ◌+◌, ◌*◌, ◌-◌, ◌/◌, ◌%◌, ◌^◌, ◌≤◌, ◌<◌}
use native.Mathlib.Omega.{arith}
use native.Mathlib.Nat.{mod-eq_of_lt, add-zero, le_of_suc-le-suc, not-suc-le-zero, mul-one}
use lib.IntN.{ℤ, pos, nat_abs}
use lib.ListN.{get_or}
use lib.Ieee.{Float, binary64, unlike, round, mul, div, of_int, of_bits}
use lib.Ieee.Scale.{round_same}
use Rattle.laws.specs.Powers.{split3, positive, rises, scale_le}
use Rattle.floats.specs.Floats.{negative}
use Rattle.floats.specs.ValueLaws.{whole_value, mul_value, div_value, field_value}
use Rattle.steps.specs.Limits.{output_unit, block_limit, output_exponent_limit}
use Rattle.readings.specs.Limits.{amplitude_shift}
use Rattle.readings.specs.Readings.{value_of, quotient}
use Rattle.readings.specs.Calls.{Exponent, powers}

-- ---- 2^(e − output_unit)

pub power_at : (k n i : ℕ) (d : Float) → i < n → get_or (powers k n) i d ≡ of_bits binary64 (suc (k + i) * 2 ^ 52)
power_at k zero i d h = absurd (not-suc-le-zero h)
power_at k (suc n) zero d h = ap (λ (m : ℕ). of_bits binary64 (suc m * 2 ^ 52)) (sym (add-zero k))
power_at k (suc n) (suc i) d h = power_at (suc k) n i d (le_of_suc-le-suc h) ∙ ap (λ (m : ℕ). of_bits binary64 (suc m * 2 ^ 52)) {x = suc k + i} {y = k + suc i} (omega arith)

unlike_false : (s : Bool) → unlike s false ≡ s
unlike_false true = refl
unlike_false false = refl

-- the leading digit, the field and output_unit − e are 1074 together
scaled : (a n k : ℕ) → 1074 ≡ 52 + (n + k) → a * (2 ^ 52 * 2 ^ n) * 2 ^ k ≡ a * (1 * 2 ^ 1074)
scaled a n k e = turn a (2 ^ 52) (2 ^ n) (2 ^ k) ∙ ap (λ (x : ℕ). a * (1 * x)) (sym (split3 1074 52 n k e))
  where
    turn : (a x y z : ℕ) → a * (x * y) * z ≡ a * (1 * (x * (y * z)))
    turn a x y z = omega arith

pub product_is : (m : ℤ) (e : ℕ) → nat_abs m ≤ 2 ^ 31 → Exponent e → mul binary64 (of_int binary64 m) (of_bits binary64 (suc (992 + e) * 2 ^ 52)) ≡ value_of m e
unfolding value_of
product_is m e h k =
    let n = 992 + e in
    mul_value binary64 (negative m) false (nat_abs m) 1 (2 ^ 52 * 2 ^ n) (2 ^ 1074) (omega arith) (positive 1074) (of_int binary64 m) (of_bits binary64 (suc n * 2 ^ 52))
    (whole_value m (omega arith)) (field_value n (omega (arith, k.1)))
    ∙ ap (λ (s : Bool). round binary64 s (nat_abs m * (2 ^ 52 * 2 ^ n)) (1 * 2 ^ 1074)) (unlike_false (negative m))
    ∙ round_same binary64 (negative m) (nat_abs m * (2 ^ 52 * 2 ^ n)) (1 * 2 ^ 1074) (nat_abs m) (2 ^ (output_unit - e)) (positive 1074) (positive (output_unit - e)) (scaled (nat_abs m) n (output_unit - e) (omega (arith, k.1)))

-- ---- a

pub amplitude_is : (m e : ℕ) → m ≤ 2 ^ 31 → e ≤ output_exponent_limit → m * 2 ^ e % 2 ^ 64 / 2 ^ amplitude_shift ≡ m * 2 ^ e / 2 ^ amplitude_shift
amplitude_is m e h k =
    let a : 2 ^ e ≤ 2 ^ output_exponent_limit = rises k in
    ap (λ (x : ℕ). x / 2 ^ amplitude_shift) (mod-eq_of_lt (omega (arith, scale_le e h)))

-- ---- the power

pub quotient_is : (sum n : ℕ) → sum < 2 ^ 53 → 1 ≤ n → n ≤ block_limit → div binary64 (of_int binary64 (pos sum)) (of_int binary64 (pos (65536 * n))) ≡ quotient sum n
unfolding quotient
quotient_is sum n h k l =
    div_value binary64 false false sum 1 (65536 * n) 1 (omega arith) (omega arith) (of_int binary64 (pos sum)) (of_int binary64 (pos (65536 * n))) (omega arith)
    (whole_value (pos sum) (omega arith)) (whole_value (pos (65536 * n)) (omega arith))
    ∙ ap₂ (λ (x y : ℕ). round binary64 false x y) (mul-one sum) (mul-one (65536 * n))
