-- The bits of a whole number as a float: its bit length, and its first digits.
use mathlib.Core.Path.{◌≡◌, refl, sym, ap, ap₂, ◌∙◌}
use mathlib.Core.Bool.{Bool, true, false, cond, not, beq}
use Prim.Native.Nat.{ℕ, zero, suc, ◌+◌, ◌*◌, ◌-◌, ◌/◌, ◌%◌, ◌^◌, ◌≤◌, ◌<◌}
use native.Mathlib.Nat.{mul-div_cancel, mul-one, mul_assoc, mul_right_comm, add_assoc, zero-add, zero-mul, le_antisymm, mul-le-mul_right}
use native.Mathlib.Omega.{arith}
use lib.Dec.{T, lt→ltb, le→leb}
use lib.IntN.{ℤ, pos, negsuc, neg_ℤ, nat_abs}
use lib.Signed.{lt_z}
use borrow.Author.Tests.{le-ltb}
use lib.Ieee.{Float, nan, inf, fin, binary32, up, down, size, round, of_int, to_bits, in_float, is_nan}
use lib.Ieee.Digits.{size-lt, size-le}
use lib.Ieee.Exact.{HasValue}
use lib.Ieee.Back.{round_whole}
use lib.Ieee.Fits.{down_pos}
use Rattle.laws.specs.Powers.{split, raise, positive, exponent_lt}
use Rattle.numbers.specs.BitLength.{bit_length}
use Rattle.numbers.proofs.BitLengthLaws.{bit_length_above, bit_length_least, bit_length_zero, bit_length_le}
use Rattle.numbers.proofs.CutLaws.{unlike, cut_alike, cut_unlike}
use Rattle.cable_trace.specs.Calls.{float_digits, float_offset, magnitude_bits, float_bits, exponent_in, leading}

-- ---- the digits of n·2^k

between : (B K P Z : ℕ) → B ≤ P * 2 → P * K < Z → 0 < K → B * K < 2 * Z
between B K P Z h l p = omega (arith, mul-le-mul_right K h)

size_raised : (n k : ℕ) → 0 < n → size (n * 2 ^ k) ≡ bit_length n + k
size_raised n k h = le_antisymm upper lower
  where
    b : ℕ
    b = bit_length n

    upper : size (n * 2 ^ k) ≤ b + k
    upper = size-le (n * 2 ^ k) (b + k) (raise n (b + k) b k refl (bit_length_above n))

    lower : b + k ≤ size (n * 2 ^ k)
    lower =
        let z = size (n * 2 ^ k) in
        let p : 2 ^ b * 2 ^ k < 2 * 2 ^ z = between (2 ^ b) (2 ^ k) n (2 ^ z) (omega (arith, bit_length_least n h)) (size-lt (n * 2 ^ k)) (positive k) in
        omega (arith, exponent_lt (b + k) (1 + z) (omega (arith, p, split (b + k) b k refl, split (1 + z) 1 z refl)))

-- ---- a magnitude

-- what `to_bits` writes, from the magnitude in units of the smallest value
abbrev written : ℕ → ℕ
written n = (size n - 24) * 2 ^ 23 + n / 2 ^ (size n - 24)

written_is : (a : ℕ) → a < 2 ^ float_digits → written (a * 2 ^ 149) ≡ magnitude_bits a
unfolding size
written_is zero h = ap written (zero-mul (2 ^ 149))
written_is (suc n) h = go
  where
    b : ℕ
    b = bit_length (suc n)

    short : b ≤ 24
    short = bit_length_le (suc n) 24 h

    shift : size (suc n * 2 ^ 149) - 24 ≡ 125 + b
    shift = omega (arith, size_raised (suc n) 149 (omega arith), short)

    kept : suc n * 2 ^ 149 / 2 ^ (125 + b) ≡ suc n * 2 ^ (24 - b)
    kept =
        let e : 149 ≡ 24 - b + (125 + b) = omega (arith, short) in
        ap (λ (x : ℕ). x / 2 ^ (125 + b)) (ap (λ (x : ℕ). suc n * x) (split 149 (24 - b) (125 + b) e) ∙ sym (mul_assoc (suc n) (2 ^ (24 - b)) (2 ^ (125 + b))))
        ∙ mul-div_cancel (suc n * 2 ^ (24 - b)) (positive (125 + b))

    go : written (suc n * 2 ^ 149) ≡ magnitude_bits (suc n)
    go = ap (λ (k : ℕ). k * 2 ^ 23 + suc n * 2 ^ 149 / 2 ^ k) shift ∙ ap (λ (x : ℕ). (125 + b) * 2 ^ 23 + x) kept

bits_of : (x : Float) (s : Bool) (a : ℕ) → HasValue x s a 1 → a < 2 ^ float_digits → to_bits binary32 x ≡ cond s (2 ^ 31) 0 + magnitude_bits a
unfolding to_bits
bits_of nan s a v h = elim v [ ]
bits_of (inf _) s a v h = elim v [ ]
bits_of (fin t m e) s a v h =
    ap (λ (n : ℕ). cond t (2 ^ 31) 0 + (size n - 24) * 2 ^ 23 + n / 2 ^ (size n - 24)) units
    ∙ add_assoc (cond t (2 ^ 31) 0) _ _ ∙ ap₂ (λ (u : Bool) (n : ℕ). cond u (2 ^ 31) 0 + n) v.0 (written_is a h)
  where
    units : m * up e * 2 ^ 149 / down e ≡ a * 2 ^ 149
    units =
        ap (λ (x : ℕ). x * 2 ^ 149 / down e) (sym (mul-one (m * up e)) ∙ v.1)
        ∙ ap (λ (x : ℕ). x / down e) (mul_right_comm a (down e) (2 ^ 149)) ∙ mul-div_cancel (a * 2 ^ 149) (down_pos e)

-- ---- a whole number

pub float_whole : (z : ℤ) → nat_abs z < 2 ^ float_digits → T (in_float binary32 z)
unfolding in_float
float_whole (pos n) h = le→leb n (2 ^ float_digits) (omega arith)
float_whole (negsuc n) h = lt→ltb n (2 ^ float_digits) (omega arith)

no_nan : (x : Float) (s : Bool) (a : ℕ) → HasValue x s a 1 → T (not (is_nan x))
unfolding is_nan
no_nan nan s a v = elim v [ ]
no_nan (inf _) s a v = elim v [ ]
no_nan (fin t m e) s a v = tt

pub float_number : (z : ℤ) → nat_abs z < 2 ^ float_digits → T (not (is_nan (of_int binary32 z)))
unfolding of_int
float_number (pos n) h = no_nan (round binary32 false n 1) false n (round_whole binary32 false n (omega arith))
float_number (negsuc n) h = no_nan (round binary32 true (suc n) 1) true (suc n) (round_whole binary32 true (suc n) (omega arith))

pub float_bits_lem : (z : ℤ) → nat_abs z < 2 ^ float_digits → to_bits binary32 (of_int binary32 z) ≡ float_bits z
unfolding of_int
float_bits_lem (pos n) h = bits_of (round binary32 false n 1) false n (round_whole binary32 false n (omega arith)) h ∙ zero-add (magnitude_bits n)
float_bits_lem (negsuc n) h = bits_of (round binary32 true (suc n) 1) true (suc n) (round_whole binary32 true (suc n) (omega arith)) h

-- ---- what stands in them

-- the 24 digits
abbrev digits : ℕ → ℕ
digits a = a * 2 ^ (float_digits - bit_length a)

digits_between : (a : ℕ) → 0 < a → a < 2 ^ float_digits → (2 ^ 23 ≤ digits a) × (digits a < 2 ^ float_digits)
digits_between a h l =
    let b = bit_length a in
    let e : 24 ≡ b + (24 - b) = omega (arith, bit_length_le a 24 l) in
    (omega (arith, split 24 b (24 - b) e, mul-le-mul_right (2 ^ (24 - b)) (bit_length_least a h)), raise a 24 b (24 - b) e (bit_length_above a))

-- below the sign
signed_bits : (z : ℤ) → 0 < nat_abs z → nat_abs z < 2 ^ float_digits → float_bits z % 2 ^ 31 ≡ (125 + bit_length (nat_abs z)) * 2 ^ 23 + digits (nat_abs z)
signed_bits (pos zero) p h = absurd (omega arith)
signed_bits (pos (suc n)) p h = omega (arith, bit_length_le (suc n) 24 h, (digits_between (suc n) p h).1)
signed_bits (negsuc n) p h = omega (arith, bit_length_le (suc n) 24 h, (digits_between (suc n) p h).1)

exponent_of : (m b d : ℕ) → b ≤ 24 → 2 ^ 23 ≤ d → d < 2 ^ float_digits → m % 2 ^ 31 ≡ (125 + b) * 2 ^ 23 + d → exponent_in m ≡ float_offset + b
exponent_of m b d h l k e = omega arith

first_of : (m b d : ℕ) → b ≤ 24 → 2 ^ 23 ≤ d → d < 2 ^ float_digits → m % 2 ^ 31 ≡ (125 + b) * 2 ^ 23 + d → 2 ^ 14 + m / 2 ^ 9 % 2 ^ 14 ≡ d / 2 ^ 9
first_of m b d h l k e = omega arith

module _ (z : ℤ) (p : 0 < nat_abs z) (h : nat_abs z < 2 ^ float_digits) where
  exponent_is : exponent_in (float_bits z) ≡ float_offset + bit_length (nat_abs z)
  exponent_is =
      let b = digits_between (nat_abs z) p h in
      exponent_of (float_bits z) (bit_length (nat_abs z)) (digits (nat_abs z)) (bit_length_le (nat_abs z) 24 h) b.0 b.1 (signed_bits z p h)

  -- the first 15 digits, of which the first one is not among the bits
  pub float_first : 2 ^ 14 + float_bits z / 2 ^ 9 % 2 ^ 14 ≡ digits (nat_abs z) / 2 ^ 9
  float_first =
      let b = digits_between (nat_abs z) p h in
      first_of (float_bits z) (bit_length (nat_abs z)) (digits (nat_abs z)) (bit_length_le (nat_abs z) 24 h) b.0 b.1 (signed_bits z p h)

pub float_exponent : (z : ℤ) → nat_abs z < 2 ^ float_digits → (exponent_in (float_bits z) - float_offset ≡ bit_length (nat_abs z)) × (exponent_in (float_bits z) ≤ float_offset + bit_length (nat_abs z))
float_exponent (pos zero) h = (sym bit_length_zero, omega arith)
float_exponent (pos (suc n)) h = let e = exponent_is (pos (suc n)) (omega arith) h in (omega (arith, e), omega (arith, e))
float_exponent (negsuc n) h = let e = exponent_is (negsuc n) (omega arith) h in (omega (arith, e), omega (arith, e))

-- ---- its first digits, with the sign

alike : (z : ℤ) (n : ℕ) → unlike z (pos n) ≡ lt_z z (pos 0)
alike z n = ap (λ (b : Bool). not (beq b (lt_z z (pos 0)))) (le-ltb n 0 (omega arith)) ∙ go (lt_z z (pos 0))
  where
    go : (b : Bool) → not (beq false b) ≡ b
    go true = refl
    go false = refl

module _ (z : ℤ) (p : 0 < nat_abs z) (h : nat_abs z < 2 ^ float_digits) where
  abbrev k : ℕ
  k = 24 - bit_length (nat_abs z)

  pub leading_whole : lt_z z (pos 0) ≡ false → pos (2 ^ 14 + float_bits z / 2 ^ 9 % 2 ^ 14) ≡ leading z
  leading_whole e = ap pos (float_first z p h) ∙ cut_alike z (pos (2 ^ k)) 9 (alike z (2 ^ k) ∙ e)

  pub leading_negative : lt_z z (pos 0) ≡ true → neg_ℤ (pos (2 ^ 14 + float_bits z / 2 ^ 9 % 2 ^ 14)) ≡ leading z
  leading_negative e = ap (λ (n : ℕ). neg_ℤ (pos n)) (float_first z p h) ∙ cut_unlike z (pos (2 ^ k)) 9 (alike z (2 ^ k) ∙ e)
