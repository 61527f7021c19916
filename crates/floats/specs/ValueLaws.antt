-- What the operations on floats give, by the fractions that floats equal: `HasValue x s a c` says that x has the sign s and is a / c in size.
use Rattle.std.specs.Prelude.{◌≡◌, refl, Bool, true, false, ℤ, pos, negsuc, nat_abs, T, eqb, Float}
use Rattle.std.proofs.Common.{sym, ◌∙◌, arith, mul-pos, zero-lt-suc, zero-mul, mul_assoc, ne_of_gt, lt_of_lt_of_le, eqb→eq, le→leb, ne_eqb}
use Rattle.std.proofs.Math.Path.{ap, ap₂, subst}
use Rattle.std.proofs.Math.Bool.{cond}
use Prim.Native.Nat.{ℕ, zero, suc, ◌+◌, ◌-◌, ◌*◌, ◌/◌, ◌%◌, ◌^◌, ◌≤◌, ◌<◌}
use Rattle.std.proofs.Math.Nat.{mul-mul-mul_comm, eq_of_mul-eq-mul_right}
use Rattle.std.specs.Float.Ieee.{nan, unlike, up, down, round, mul, div, of_int, odd, of_fields, of_bits, in_float, fits}
use Rattle.std.specs.Float.{inf, fin, Format, binary64}
use Rattle.std.specs.Float.Ieee.Exact.{HasValue, round_exact, odd_sign}
use Rattle.std.specs.Float.Ieee.Back.{round_whole}
use Rattle.std.specs.Float.Ieee.Fits.{up_pos, down_pos, round-fits}
use Rattle.std.specs.Float.Ieee.Positive.{first_pos}
use Rattle.std.specs.Float.Ieee.Scale.{round_same}
use Rattle.std.proofs.lemmas.Bool.{lt-leb}
use Rattle.laws.specs.Powers.{positive, rises, raise, below, double}
use Rattle.floats.specs.Floats.{negative}

-- ---- equal fractions

pub same_value : (x : Float) (s : Bool) (a c b d : ℕ) → 0 < c → b * c ≡ a * d → HasValue x s a c → HasValue x s b d
same_value nan s a c b d C e h = h
same_value (inf t) s a c b d C e h = h
same_value (fin t m g) s a c b d C e h = (h.0, eq_of_mul-eq-mul_right c C (m * up g * d) (b * down g) (cross (m * up g) (down g) a c b d h.1 e))
  where
    cross : (x p a c b d : ℕ) → x * c ≡ a * p → b * c ≡ a * d → x * d * c ≡ b * p * c
    cross x p a c b d h e = omega (arith, ap (λ (n : ℕ). n * d) h, ap (λ (n : ℕ). n * p) e)

-- ---- a whole number

pub whole_value : (z : ℤ) → nat_abs z ≤ 2 ^ 53 → HasValue (of_int binary64 z) (negative z) (nat_abs z) 1
unfolding of_int
whole_value (pos n) h = round_whole binary64 false n h
whole_value (negsuc n) h = round_whole binary64 true (suc n) h

pub whole_fits : (n : ℕ) → n ≤ 2 ^ 53 → T (in_float binary64 (pos n))
unfolding in_float
whole_fits n h = le→leb n (2 ^ 53) h

-- ---- products and quotients

-- x / p is a / c and y / q is b / d
quotients : (x p y q a c b d : ℕ) → x * c ≡ a * p → y * d ≡ b * q → x * q * (b * c) ≡ a * d * (y * p)
quotients x p y q a c b d h k = omega (arith, ap₂ (λ (m n : ℕ). m * n) h (sym k))

module _ (f : Format) (s t : Bool) (a c b d : ℕ) (C : 0 < c) (D : 0 < d) where
  pub mul_value : (x y : Float) → HasValue x s a c → HasValue y t b d → mul f x y ≡ round f (unlike s t) (a * b) (c * d)
  unfolding mul
  mul_value nan y h k = absurd h
  mul_value (inf u) y h k = absurd h
  mul_value (fin u m e) nan h k = absurd k
  mul_value (fin u m e) (inf v) h k = absurd k
  mul_value (fin u m e) (fin v n g) h k =
      ap₂ (λ (x y : Bool). round f (unlike x y) (m * up e * (n * up g)) (down e * down g)) h.0 k.0
      ∙ round_same f (unlike s t) (m * up e * (n * up g)) (down e * down g) (a * b) (c * d) (mul-pos (down_pos e) (down_pos g)) (mul-pos C D)
      (mul-mul-mul_comm (m * up e) (n * up g) c d ∙ ap₂ ◌*◌ h.1 k.1 ∙ mul-mul-mul_comm a (down e) b (down g))

  pub div_value : (x y : Float) → 0 < b → HasValue x s a c → HasValue y t b d → div f x y ≡ round f (unlike s t) (a * d) (b * c)
  unfolding div
  div_value nan y B h k = absurd h
  div_value (inf u) y B h k = absurd h
  div_value (fin u m e) nan B h k = absurd k
  div_value (fin u m e) (inf v) B h k = absurd k
  div_value (fin u m e) (fin v n g) B h k =
      ap (λ (z : Bool). cond z (cond (eqb m 0) nan (inf (unlike u v))) (round f (unlike u v) (m * up e * down g) (n * up g * down e))) (ne_eqb n 0 (ne_of_gt above))
      ∙ ap₂ (λ (x y : Bool). round f (unlike x y) (m * up e * down g) (n * up g * down e)) h.0 k.0
      ∙ round_same f (unlike s t) (m * up e * down g) (n * up g * down e) (a * d) (b * c) (mul-pos (first_pos (n * up g) d cross) (down_pos e)) (mul-pos B C)
      (quotients (m * up e) (down e) (n * up g) (down g) a c b d h.1 k.1)
    where
      cross : 0 < n * up g * d
      cross = subst (λ (z : ℕ). 0 < z) (sym k.1) (mul-pos B (down_pos g))

      above : 0 < n
      above = first_pos n (up g) (first_pos (n * up g) d cross)

-- ---- powers of two

-- the exponent's field alone: the leading digit, and no other
pub field_bits : (n : ℕ) → n < 2046 → of_bits binary64 (suc n * 2 ^ 52) ≡ odd 53 false (2 ^ 52) n 1074
unfolding of_fields of_bits
field_bits n h =
    let b = suc n * 2 ^ 52 in
    ap (λ (t : Bool). of_fields binary64 t (b % 2 ^ 63 / 2 ^ 52) (b % 2 ^ 52)) (lt-leb (2 ^ 63) b (omega arith))
    ∙ ap₂ (λ (x y : ℕ). of_fields binary64 false x y) (top n h) (rest n h)
    ∙ ap (λ (t : Bool). cond t (inf false) (odd 53 false (2 ^ 52) n 1074)) (ne_eqb (suc n) 2047 (λ e. omega arith))
  where
    top : (n : ℕ) → n < 2046 → suc n * 2 ^ 52 % 2 ^ 63 / 2 ^ 52 ≡ suc n
    top n h = omega arith

    rest : (n : ℕ) → n < 2046 → suc n * 2 ^ 52 % 2 ^ 52 ≡ 0
    rest n h = omega arith

pub field_value : (n : ℕ) → n < 2046 → HasValue (of_bits binary64 (suc n * 2 ^ 52)) false (2 ^ 52 * 2 ^ n) (2 ^ 1074)
field_value n h = subst (λ (x : Float). HasValue x false (2 ^ 52 * 2 ^ n) (2 ^ 1074)) (sym (field_bits n h)) (odd_sign 53 false (2 ^ 52) n 1074)

-- n / 2^k of at most 53 digits is not rounded
pub exact : (s : Bool) (n k : ℕ) → n < 2 ^ 53 → k ≤ 53 → HasValue (round binary64 s n (2 ^ k)) s n (2 ^ k)
exact s n k h g =
    round_exact binary64 s n (2 ^ k) n (1074 - k) (positive k) h
    (lt_of_lt_of_le (raise n (53 + (1074 - k)) 53 (1074 - k) refl h) (rises {b = 2098} (omega arith)))
    (ap (λ (x : ℕ). n * x) (below {a = 1074} {b = k} (omega arith)) ∙ sym (mul_assoc n (2 ^ (1074 - k)) (2 ^ k)))

-- ---- zero

only_zero : (a b c : ℕ) → a * b * c ≡ 0 → 0 < b → 0 < c → a ≡ 0
only_zero zero b c e B C = refl
only_zero (suc a) b c e B C = absurd (ne_of_gt (mul-pos (mul-pos (zero-lt-suc a) B) C) e)

zero_exponent : (e : ℤ) → up e * down e ≡ 1 → e ≡ pos 0
zero_exponent (pos zero) h = refl
zero_exponent (pos (suc k)) h = absurd (omega (arith, h, double k, positive k))
zero_exponent (negsuc k) h = absurd (omega (arith, h, double k, positive k))

-- a float with the value 0 and the sign + is +0
pub zero_is_plus : (f : Format) (x : Float) (c : ℕ) → 0 < c → T (fits f x) → HasValue x false 0 c → x ≡ fin false 0 (pos 0)
unfolding fits
zero_is_plus f nan c C t h = absurd h
zero_is_plus f (inf s) c C t h = absurd h
zero_is_plus f (fin s zero e) c C t h = ap₂ (λ (u : Bool) (z : ℤ). fin u 0 z) h.0 (zero_exponent e (eqb→eq (up e * down e) 1 t))
zero_is_plus f (fin s (suc m) e) c C t h = absurd (ne_of_gt (omega arith) (only_zero (suc m) (up e) c (h.1 ∙ zero-mul (down e)) (up_pos e) C))

pub round_zero : (c : ℕ) → 0 < c → round binary64 false 0 c ≡ fin false 0 (pos 0)
round_zero c C = zero_is_plus binary64 (round binary64 false 0 c) c C (round-fits binary64 false 0 c) (round_exact binary64 false 0 c 0 0 C (positive 53) (positive 2098) (nothing (2 ^ 1074) c))
  where
    nothing : (a b : ℕ) → 0 * a ≡ 0 * 1 * b
    nothing a b = omega arith
