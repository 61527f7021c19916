-- Whole numbers in machine registers: ranges as bounds on magnitudes, tests as orders, a one that is shifted.
use Rattle.std.specs.Prelude.{◌≡◌, refl, true, false, not, ℕ, zero, suc, ◌+◌, ◌*◌, ◌-◌, ◌/◌, ◌%◌, ◌^◌, ◌≤◌, ◌<◌, max, T, leb, ltb, ℤ, pos, negsuc, nat_abs, ◌+ℤ◌, ◌-ℤ◌, ◌≤ℤ◌, ◌<ℤ◌}
use Rattle.std.proofs.Common.{sym, ap, ap₂, ◌∙◌, subst, arith, one-mul, mod-eq_of_lt, mod-lt, lt_of_le_of_lt, ltb→lt, lt→ltb, lit<, le-ltb, pow_pos, pow_mono, to_z-of_z}
use Rattle.std.proofs.Math.Arith.{bin_ind, digits_div, digits_mod}
use Rattle.std.specs.Int.Bits.{bit_or, or_step}
use Rattle.std.proofs.Math.Dec.{nleb→lt}
use Rattle.std.proofs.Math.Pow.{pow-lt}
use Rattle.std.proofs.Math.IntN.{sub_ℕ}
use Rattle.std.specs.Int.Signed.{mag, shr_z, mag_shr, le_z, lt_z, le_z_yes, lt_z_yes, lt_z_no, nat_abs-le}
use Rattle.std.specs.Int.{Width, w8, w16, w32, w64, w128}
use mir.Val.{SFits, bits, hbits, to_z, of_z}
use Rattle.std.proofs.Math.Facts.{to_z_pos, to_z-neg, sfits_widen}
use Rattle.laws.specs.Parts.{choose}
use Rattle.laws.specs.Integers.{abs_add, abs_sub}

-- ---- ranges

mag_le : (z : ℤ) → mag z ≤ nat_abs z
mag_le (pos n) = omega arith
mag_le (negsuc n) = omega arith

-- a register keeps a number within its range
pub kept : (w : Width) (z : ℤ) → mag z < 2 ^ hbits w → to_z w (of_z w z) ≡ z
kept w z h = to_z-of_z (record { sfits = h })

pub fits_abs : {w : Width} (z : ℤ) → nat_abs z < 2 ^ hbits w → SFits w z
fits_abs z h = record { sfits = lt_of_le_of_lt (mag_le z) h }

pub abs_fits : {w : Width} {z : ℤ} → SFits w z → nat_abs z ≤ 2 ^ hbits w
abs_fits {z = z} h = nat_abs-le z h.sfits

-- the sum and the difference of two numbers that a register keeps, where no larger one is needed
module _ (w : Width) {a b x y : ℤ} (f : mag a < 2 ^ hbits w) (g : mag b < 2 ^ hbits w) (e : a ≡ x) (h : b ≡ y) (l : nat_abs x + nat_abs y < 2 ^ hbits w) where
  pub sum_kept : let s = to_z w (of_z w a) +ℤ to_z w (of_z w b) in SFits w s × (to_z w (of_z w s) ≡ x +ℤ y)
  sum_kept = rw (kept w a f, kept w b g, e, h) (within, to_z-of_z within)
    where
      within : SFits w (x +ℤ y)
      within = fits_abs (x +ℤ y) (lt_of_le_of_lt (abs_add x y) l)

  pub difference_kept : let d = to_z w (of_z w a) -ℤ to_z w (of_z w b) in SFits w d × (to_z w (of_z w d) ≡ x -ℤ y)
  difference_kept = rw (kept w a f, kept w b g, e, h) (within, to_z-of_z within)
    where
      within : SFits w (x -ℤ y)
      within = fits_abs (x -ℤ y) (lt_of_le_of_lt (abs_sub x y) l)

-- a wider one too
pub kept_wider : {w : Width} (w' : Width) {z : ℤ} → T (leb (hbits w) (hbits w')) → SFits w z → to_z w' (of_z w' (to_z w (of_z w z))) ≡ z
kept_wider w' t f = ap (λ (x : ℤ). to_z w' (of_z w' x)) (to_z-of_z f) ∙ to_z-of_z (sfits_widen t f)

-- a shift that rounds down stays within the range
pub fits_shr : {w : Width} (z : ℤ) (m : ℕ) → SFits w z → SFits w (shr_z z m)
fits_shr z m h = record { sfits = lt_of_le_of_lt (mag_shr z m) h.sfits }

pub shr_kept : (w : Width) (z : ℤ) (m : ℕ) → mag z < 2 ^ hbits w → to_z w (of_z w (shr_z (to_z w (of_z w z)) m)) ≡ shr_z z m
shr_kept w z m h = ap (λ (x : ℤ). to_z w (of_z w (shr_z x m))) (kept w z h) ∙ to_z-of_z (fits_shr z m (record { sfits = h }))

opposite : (m n h : ℕ) → m < h → n < h → mag (sub_ℕ n (suc m)) < h
opposite m n h f g =
    choose (ltb n (suc m)) (negsuc (suc m - suc n)) (pos (n - suc m)) (λ z. mag z < h) (λ t. below) (λ t. above)
  where
    below : suc m - suc n < h
    below = omega arith

    above : n - suc m < h
    above = omega arith

-- a negative number and a whole one have a sum within the range of both
pub fits_opposite : {w : Width} (z : ℤ) (n : ℕ) → z <ℤ pos 0 → SFits w z → n < 2 ^ hbits w → SFits w (z +ℤ pos n)
fits_opposite (pos m) n h f g = absurd (omega (arith, ltb→lt m 0 h.lt))
fits_opposite (negsuc m) n h f g = record { sfits = opposite m n _ f.sfits g }

-- −1 − z of a negative z, which no range excludes, and its distance to |z|
pub complement : (z : ℤ) → z <ℤ pos 0 → (negsuc 0 -ℤ z ≡ pos (mag z)) × (mag z + 1 ≡ nat_abs z)
complement (pos n) h = absurd (omega (arith, ltb→lt n 0 h.lt))
complement (negsuc n) h = (simp (le-ltb (suc n) 1 (omega arith)) (ap pos (omega arith)), omega arith)

-- ---- a one that is shifted

pub one_shifted : (w : Width) (k : ℕ) → k < bits w → 1 * 2 ^ k % 2 ^ bits w ≡ 2 ^ k
one_shifted w k h = ap (λ (n : ℕ). n % 2 ^ bits w) (one-mul (2 ^ k)) ∙ mod-eq_of_lt (pow-lt h)

half_width : (w : Width) → bits w ≡ suc (hbits w)
half_width w8 = refl
half_width w16 = refl
half_width w32 = refl
half_width w64 = refl
half_width w128 = refl

pub signed_one_shifted : (w : Width) (k : ℕ) → k < hbits w → to_z w (1 * 2 ^ k % 2 ^ bits w) ≡ pos (2 ^ k)
signed_one_shifted w k h = ap (to_z w) (one_shifted w k (omega (arith, half_width w))) ∙ to_z_pos w (pow-lt h)

-- one less than it
pub ones_fit : (w : Width) (k : ℕ) → k < bits w → (1 ≤ 1 * 2 ^ k % 2 ^ bits w) × (1 * 2 ^ k % 2 ^ bits w - 1 < 2 ^ hbits w)
ones_fit w k h = omega (arith, one_shifted w k h, pow_pos k, pow_mono {i = k} {j = hbits w} (omega (arith, half_width w)))

pub ones_are : (w : Width) (k : ℕ) → k < bits w → to_z w (1 * 2 ^ k % 2 ^ bits w - 1) ≡ pos (2 ^ k - 1)
ones_are w k h = to_z_pos w (ones_fit w k h).1 ∙ ap (λ (n : ℕ). pos (n - 1)) (one_shifted w k h)

-- ---- tests

pub le_tested : {a b : ℤ} → le_z a b ≡ true → a ≤ℤ b
le_tested e = le_z_yes (subst T (sym e) tt)

pub lt_tested : {a b : ℤ} → lt_z a b ≡ true → a <ℤ b
lt_tested e = lt_z_yes (subst T (sym e) tt)

pub lt_refuted : {a b : ℤ} → lt_z a b ≡ false → b ≤ℤ a
lt_refuted e = lt_z_no (subst (λ t. T (not t)) (sym e) tt)

pub le_refuted : {a b : ℤ} → le_z a b ≡ false → b <ℤ a
le_refuted {a} {b} e = lt_z_yes (below a b (subst (λ t. T (not t)) (sym e) tt))
  where
    below : (a b : ℤ) → T (not (le_z a b)) → T (lt_z b a)
    below (pos a) (pos b) t = lt→ltb b a (nleb→lt a b t)
    below (pos a) (negsuc b) t = tt
    below (negsuc a) (pos b) t = t
    below (negsuc a) (negsuc b) t = lt→ltb a b (nleb→lt b a t)

-- ---- a number and its bits at 0

pub zero_bits : (w : Width) (z : ℤ) → nat_abs z ≡ 0 → of_z w z ≡ 0
zero_bits w (pos n) e = e
zero_bits w (negsuc n) e = absurd (omega arith)

pub zero_of_bits : {w : Width} {z : ℤ} → SFits w z → of_z w z ≡ 0 → z ≡ pos 0
zero_of_bits {w} {z} f e = sym (to_z-of_z f) ∙ ap (to_z w) e ∙ to_z_pos w (pow_pos (hbits w))

-- ---- the upper half of the bits

minus_one : (m : ℕ) → negsuc 0 -ℤ pos m ≡ negsuc m
minus_one zero = refl
minus_one (suc m) = ap negsuc (omega arith)

-- −1 − m, where m and n are one less than 2^w together
pub upper : (w : Width) (n m : ℕ) → m < 2 ^ hbits w → m + suc n ≡ 2 ^ bits w → negsuc 0 -ℤ to_z w m ≡ to_z w n
upper w n m h e =
    ap (λ (z : ℤ). negsuc 0 -ℤ z) (to_z_pos w h) ∙ minus_one m ∙ sym (to_z-neg w m h)
    ∙ ap (to_z w) (omega arith)

-- ---- the bits of two numbers together

digit : (a b : ℕ) → max (a % 2) (b % 2) < 2
digit a b = omega (arith, mod-lt a (lit< {m = 0} {n = 2} tt), mod-lt b (lit< {m = 0} {n = 2} tt))

or_half : (a b : ℕ) → bit_or a b / 2 ≡ bit_or (a / 2) (b / 2)
or_half a b = ap (λ (n : ℕ). n / 2) (or_step a b) ∙ digits_div (bit_or (a / 2) (b / 2)) (digit a b)

or_last : (a b : ℕ) → bit_or a b % 2 ≡ max (a % 2) (b % 2)
or_last a b = ap (λ (n : ℕ). n % 2) (or_step a b) ∙ digits_mod (bit_or (a / 2) (b / 2)) (digit a b)

pub or_assoc : (a b c : ℕ) → bit_or (bit_or a b) c ≡ bit_or a (bit_or b c)
or_assoc a = bin_ind (λ (n : ℕ). (b c : ℕ) → bit_or (bit_or n b) c ≡ bit_or n (bit_or b c)) (λ b c. refl) next a
  where
    next : (n : ℕ) → ((b c : ℕ) → bit_or (bit_or (n / 2) b) c ≡ bit_or (n / 2) (bit_or b c)) → (b c : ℕ) → bit_or (bit_or n b) c ≡ bit_or n (bit_or b c)
    next n rest b c =
        or_step (bit_or n b) c
        ∙ ap₂ (λ (x y : ℕ). x * 2 + y)
        (ap (λ (x : ℕ). bit_or x (c / 2)) (or_half n b) ∙ rest (b / 2) (c / 2) ∙ ap (bit_or (n / 2)) (sym (or_half b c)))
        (omega (arith, or_last n b, or_last b c))
        ∙ sym (or_step n (bit_or b c))
