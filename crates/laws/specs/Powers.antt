-- Powers of two at variable exponents: each law takes the equation or the order of the exponents.
use Rattle.std.specs.Prelude.{◌≡◌, refl, ℕ, zero, suc, ◌+◌, ◌*◌, ◌-◌, ◌^◌, ◌≤◌, ◌<◌}
use Rattle.std.proofs.Common.{sym, ap, ◌∙◌, arith, lt_of_not-le, not-le_of_lt, le_of_mul-le-mul_right, lt_of_mul-lt-mul_right, mul-le-mul_right, mul-lt-mul_of_pos_right, sub-add_cancel, pow-add, pow_pos, pow_mono}
use Rattle.std.proofs.Math.Nat.{two-pow-succ}
use Rattle.std.proofs.Math.Pow as P

-- ---- split

pub split : (k a b : ℕ) → k ≡ a + b → 2 ^ k ≡ 2 ^ a * 2 ^ b
split k a b e = ap (λ (n : ℕ). 2 ^ n) e ∙ pow-add 2 a b

pub split3 : (k a b c : ℕ) → k ≡ a + (b + c) → 2 ^ k ≡ 2 ^ a * (2 ^ b * 2 ^ c)
split3 k a b c e = split k a (b + c) e ∙ ap (λ (n : ℕ). 2 ^ a * n) (pow-add 2 b c)

pub split4 : (k a b c d : ℕ) → k ≡ a + (b + (c + d)) → 2 ^ k ≡ 2 ^ a * (2 ^ b * (2 ^ c * 2 ^ d))
split4 k a b c d e = split k a (b + (c + d)) e ∙ ap (λ (n : ℕ). 2 ^ a * n) (split3 (b + (c + d)) b c d refl)

pub same : (a b : ℕ) → a ≡ b → 2 ^ a ≡ 2 ^ b
same a b e = ap (λ (n : ℕ). 2 ^ n) e

-- a difference that is not cut off at 0
pub below : {a b : ℕ} → b ≤ a → 2 ^ a ≡ 2 ^ (a - b) * 2 ^ b
below {a} {b} h = split a (a - b) b (sym (sub-add_cancel h))

pub double : (k : ℕ) → 2 ^ suc k ≡ 2 * 2 ^ k
double k = omega (arith, two-pow-succ k)

-- ---- compare

pub positive : (k : ℕ) → 1 ≤ 2 ^ k
positive k = pow_pos k

pub rises : {a b : ℕ} → a ≤ b → 2 ^ a ≤ 2 ^ b
rises h = pow_mono h

pub rises_strictly : {a b : ℕ} → a < b → 2 ^ a < 2 ^ b
rises_strictly h = P.pow-lt h

pub exponent_le : (a b : ℕ) → 2 ^ a ≤ 2 ^ b → a ≤ b
exponent_le a b h = omega (arith, lt_of_not-le {n = suc b} {m = a} (λ g. not-le_of_lt (rises_strictly g) h))

pub exponent_lt : (a b : ℕ) → 2 ^ a < 2 ^ b → a < b
exponent_lt a b h = lt_of_not-le (λ g. not-le_of_lt h (rises g))

-- every number is below the power of it
pub above : (n : ℕ) → n < 2 ^ n
above zero = omega arith
above (suc n) = omega (arith, above n, double n)

-- ---- scale and cancel

pub scale_le : {m n : ℕ} (k : ℕ) → m ≤ n → m * 2 ^ k ≤ n * 2 ^ k
scale_le k h = mul-le-mul_right (2 ^ k) h

pub scale_lt : {m n : ℕ} (k : ℕ) → m < n → m * 2 ^ k < n * 2 ^ k
scale_lt k h = mul-lt-mul_of_pos_right h (pow_pos k)

pub cancel_le : {m n : ℕ} (k : ℕ) → m * 2 ^ k ≤ n * 2 ^ k → m ≤ n
cancel_le k h = le_of_mul-le-mul_right h (pow_pos k)

pub cancel_lt : {m n : ℕ} (k : ℕ) → m * 2 ^ k < n * 2 ^ k → m < n
cancel_lt k h = lt_of_mul-lt-mul_right (2 ^ k) h

-- a bound at a higher scale, taken down to one without it, and back
pub lower : (m c a b : ℕ) → c ≡ a + b → m * 2 ^ b < 2 ^ c → m < 2 ^ a
lower m c a b e h = cancel_lt b (omega (arith, split c a b e))

pub raise : (m c a b : ℕ) → c ≡ a + b → m < 2 ^ a → m * 2 ^ b < 2 ^ c
raise m c a b e h = omega (arith, scale_lt b h, split c a b e)
