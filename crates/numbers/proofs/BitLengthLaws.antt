-- Laws of the bit length.
use mathlib.Core.Path.{◌≡◌, refl, sym, ap, ◌∙◌}
use Prim.Native.Nat.{ℕ, zero, suc, ◌+◌, ◌*◌, ◌/◌, ◌^◌, ◌≤◌, ◌<◌}
use native.Mathlib.Omega.{arith}
use native.Mathlib.Nat.{eq-zero-or-pos, le_refl, lt_of_le_of_lt, le_antisymm}
use mathlib.Core.Logic.{◌⊎◌, inl, inr}
use lib.Arith.{half_le}
use lib.Count.{count_leading_zeros, leading_length}
use Rattle.laws.specs.Powers.{double, rises, exponent_lt}
use Rattle.numbers.specs.BitLength.{binary_digits, bit_length}

digits_above : (d n : ℕ) → n ≤ d → n < 2 ^ binary_digits d n
unfolding binary_digits
digits_above zero n h = omega arith
digits_above (suc d) zero h = omega arith
digits_above (suc d) (suc n) h =
    omega (arith, digits_above d (suc n / 2) (half_le h), double (binary_digits d (suc n / 2)))

digits_least : (d n : ℕ) → n ≤ d → 0 < n → 2 ^ binary_digits d n ≤ 2 * n
unfolding binary_digits
digits_least zero n h p = absurd (omega arith)
digits_least (suc d) zero h p = absurd (omega arith)
digits_least (suc d) (suc n) h p = go (λ q. digits_least d (suc n / 2) (half_le h) q) (eq-zero-or-pos (suc n / 2))
  where
    none : (m : ℕ) → m ≡ 0 → 2 ^ binary_digits d m ≡ 1
    none m e = ap (λ (x : ℕ). 2 ^ binary_digits d x) e ∙ ap (λ (x : ℕ). 2 ^ x) (empty d)
      where
        empty : (d : ℕ) → binary_digits d 0 ≡ 0
        empty zero = refl
        empty (suc d) = refl

    go : (0 < suc n / 2 → 2 ^ binary_digits d (suc n / 2) ≤ 2 * (suc n / 2)) → (suc n / 2 ≡ 0) ⊎ (0 < suc n / 2) → 2 ^ suc (binary_digits d (suc n / 2)) ≤ 2 * suc n
    go rest (inl e) = omega (arith, double (binary_digits d (suc n / 2)), none (suc n / 2) e)
    go rest (inr q) = omega (arith, double (binary_digits d (suc n / 2)), rest q)

pub bit_length_above : (n : ℕ) → n < 2 ^ bit_length n
unfolding bit_length
bit_length_above n = digits_above n n (le_refl n)

-- 2^(bit length − 1) ≤ n, without the difference
pub bit_length_least : (n : ℕ) → 0 < n → 2 ^ bit_length n ≤ 2 * n
unfolding bit_length
bit_length_least n p = digits_least n n (le_refl n) p

pub bit_length_zero : bit_length 0 ≡ 0
unfolding bit_length
bit_length_zero = refl

-- a number below 2^k has at most k digits, and only such a number
pub bit_length_le : (n k : ℕ) → n < 2 ^ k → bit_length n ≤ k
bit_length_le n k h = go (eq-zero-or-pos n)
  where
    go : (n ≡ 0) ⊎ (0 < n) → bit_length n ≤ k
    go (inl e) = omega (arith, ap bit_length e ∙ bit_length_zero)
    go (inr p) = omega (arith, exponent_lt (bit_length n) (suc k) (omega (arith, bit_length_least n p, double k)))

pub bit_length_lt : (n k : ℕ) → bit_length n ≤ k → n < 2 ^ k
bit_length_lt n k h = omega (arith, bit_length_above n, rises h)

pub bit_length_mono : {m n : ℕ} → m ≤ n → bit_length m ≤ bit_length n
bit_length_mono {m} {n} h = bit_length_le m (bit_length n) (lt_of_le_of_lt h (bit_length_above n))

-- the number whose power n is below, and no shorter one is
pub bit_length_is : (n m : ℕ) → n < 2 ^ m → 2 ^ m ≤ 2 * n + 1 → m ≡ bit_length n
bit_length_is n m h l =
    le_antisymm (omega (arith, exponent_lt m (suc (bit_length n)) (omega (arith, bit_length_above n, double (bit_length n))))) (bit_length_le n m h)

-- from the count of leading zeros at any width
pub bit_length_leading : (n k : ℕ) → n < 2 ^ k → count_leading_zeros k n + bit_length n ≡ k
bit_length_leading n k h =
    let t = leading_length k n h in
    ap (λ (m : ℕ). count_leading_zeros k n + m) (sym (bit_length_is n t.0 t.2 t.3)) ∙ t.1
