-- Laws of the cut T(z / 2^k), for every z and k.
use mathlib.Core.Path.{◌≡◌, refl, sym, ap, ◌∙◌, subst}
use Prim.Native.Nat.{ℕ, zero, suc, ◌+◌, ◌*◌, ◌-◌, ◌/◌, ◌%◌, ◌^◌, ◌≤◌, ◌<◌, min}
use mathlib.Core.Bool.{Bool, true, false, not, beq}
use native.Mathlib.Omega.{arith}
use native.Mathlib.Nat.{zero-div, div-one, div-le_self, div-mul-le_self, div-add-mod', mod-lt, mul-div-mul_right, div-eq_of_lt, div-eq-sub-div, div-lt_iff_lt-mul, mul-div_cancel, min-eq_left, min-eq_right, lt_of_lt_of_le}
use lib.Pow.{pow_pos}
use lib.Dec.{T, ltb, ltb→lt}
use borrow.Author.Tests.{lt-ltb, le-ltb}
use native.Mathlib.Decide.{dec_le}
use native.Mathlib.Numerals.{add-one}
use lib.Signed.{shr_z, le_z, lt_z, ◌≤ℤ◌, ◌<ℤ◌}
use lib.IntN.{ℤ, pos, negsuc, neg_ℤ, nat_abs, sub_ℕ, ◌+ℤ◌, ◌-ℤ◌, ◌*ℤ◌, *ℤ_comm, zero-*ℤ, neg_ℤ-neg_ℤ, neg_ℤ-+ℤ}
use mir.Syntax.{Width}
use mir.Val.{SFits, bits, hbits, to_z, of_z}
use mir.Facts.{to_z-of_z}
use Rattle.laws.specs.Integers.{*ℤ_assoc, neg-*ℤ, abs_mul, abs_neg}
use Rattle.laws.specs.Machine.{fits_abs, fits_opposite, fits_shr, one_shifted, signed_one_shifted, lt_tested, lt_refuted, le_tested, le_refuted, ones_fit, ones_are}
use Rattle.laws.specs.Linear.{by_abs_lt, diff, nat}
use Rattle.laws.specs.Powers.{split, rises}
use Rattle.numbers.specs.Cut.{cut, raise, rescale}

-- what holds of a natural number, and with a number of its negative, holds of every number
by_sign : (P : ℤ → Type 0) → ((n : ℕ) → P (pos n)) → ((z : ℤ) → P z → P (neg_ℤ z)) → (z : ℤ) → P z
by_sign P f g (pos n) = f n
by_sign P f g (negsuc n) = g (pos (suc n)) (f (suc n))

pub cut_abs : (z : ℤ) (k : ℕ) → nat_abs (cut z k) ≡ nat_abs z / 2 ^ k
unfolding cut
cut_abs (pos n) k = refl
cut_abs (negsuc n) k = abs_neg (pos (suc n / 2 ^ k))

pub cut_zero : (k : ℕ) → cut (pos 0) k ≡ pos 0
unfolding cut
cut_zero k = ap pos (zero-div (2 ^ k))

pub cut_neg : (z : ℤ) (k : ℕ) → cut (neg_ℤ z) k ≡ neg_ℤ (cut z k)
unfolding cut
cut_neg (pos zero) k = rw zero-div
cut_neg (pos (suc n)) k = refl
cut_neg (negsuc n) k = sym (neg_ℤ-neg_ℤ (pos (suc n / 2 ^ k)))

pub raise_neg : (z : ℤ) (k : ℕ) → raise (neg_ℤ z) k ≡ neg_ℤ (raise z k)
raise_neg z k = neg-*ℤ z (pos (2 ^ k))

pub cut_none : (z : ℤ) → cut z 0 ≡ z
unfolding cut
cut_none (pos n) = ap pos (div-one n)
cut_none (negsuc n) = ap (λ (m : ℕ). neg_ℤ (pos m)) (div-one (suc n))

-- a cut never grows a magnitude
pub cut_le : (z : ℤ) (k : ℕ) → nat_abs (cut z k) ≤ nat_abs z
cut_le z k = omega (arith, cut_abs z k, div-le_self (nat_abs z) (2 ^ k))

pub cut_scaled : (z : ℤ) (k : ℕ) → nat_abs (cut z k) * 2 ^ k ≤ nat_abs z
cut_scaled z k = omega (arith, div-mul-le_self (nat_abs z) (2 ^ k), ap (λ (n : ℕ). n * 2 ^ k) (cut_abs z k))

pub cut_lt : (z : ℤ) (c j k : ℕ) → c ≡ j + k → nat_abs z < 2 ^ c → nat_abs (cut z k) < 2 ^ j
cut_lt z c j k e h = rw (cut_abs) ((div-lt_iff_lt-mul (pow_pos k)).1 (omega (arith, split c j k e)))

pub cut_all : (z : ℤ) (k : ℕ) → nat_abs z < 2 ^ k → cut z k ≡ pos 0
unfolding cut
cut_all (pos n) k h = ap pos (div-eq_of_lt h)
cut_all (negsuc n) k h = ap (λ (m : ℕ). neg_ℤ (pos m)) (div-eq_of_lt h)

-- where m bits leave nothing, no more than m are needed
pub cut_most : (z : ℤ) (k m : ℕ) → nat_abs z < 2 ^ m → cut z (min k m) ≡ cut z k
cut_most z k m h = go (dec_le k m)
  where
    go : Dec (k ≤ m) → cut z (min k m) ≡ cut z k
    go (yes f) = ap (cut z) (min-eq_left f)
    go (no f) =
        ap (cut z) (min-eq_right (omega arith)) ∙ cut_all z m h
        ∙ sym (cut_all z k (lt_of_lt_of_le h (rises {a = m} {b = k} (omega arith))))

-- what is cut off is less than one unit
pub cut_error : (z : ℤ) (k : ℕ) → nat_abs (z -ℤ raise (cut z k) k) < 2 ^ k
unfolding cut
cut_error z k = by_sign (λ z. nat_abs (z -ℤ raise (cut z k) k) < 2 ^ k) whole negative z
  where
    whole : (n : ℕ) → nat_abs (pos n -ℤ pos (n / 2 ^ k * 2 ^ k)) < 2 ^ k
    whole n = by_abs_lt (pos n -ℤ pos (n / 2 ^ k * 2 ^ k)) (diff (nat n) (nat (n / 2 ^ k * 2 ^ k))) (omega (arith, div-add-mod' n (2 ^ k), mod-lt n (pow_pos k)))

    turned : (z : ℤ) → neg_ℤ z -ℤ raise (cut (neg_ℤ z) k) k ≡ neg_ℤ (z -ℤ raise (cut z k) k)
    turned z =
        ap (λ (c : ℤ). neg_ℤ z -ℤ raise c k) (cut_neg z k) ∙ ap (λ (c : ℤ). neg_ℤ z -ℤ c) (raise_neg (cut z k) k)
        ∙ sym (neg_ℤ-+ℤ z (neg_ℤ (raise (cut z k) k)))

    negative : (z : ℤ) → nat_abs (z -ℤ raise (cut z k) k) < 2 ^ k → nat_abs (neg_ℤ z -ℤ raise (cut (neg_ℤ z) k) k) < 2 ^ k
    negative z h = subst (λ (m : ℕ). m < 2 ^ k) (sym (ap nat_abs (turned z) ∙ abs_neg (z -ℤ raise (cut z k) k))) h

-- ---- a number raised

pub raise_abs : (z : ℤ) (k : ℕ) → nat_abs (raise z k) ≡ nat_abs z * 2 ^ k
raise_abs z k = abs_mul z (pos (2 ^ k))

-- in a register, as a product with a shifted one
pub raise_kept : (w : Width) (z : ℤ) (k : ℕ) → SFits w z → k < hbits w → nat_abs z * 2 ^ k < 2 ^ hbits w →
    let x = to_z w (of_z w z) *ℤ to_z w (1 * 2 ^ k % 2 ^ bits w) in
    SFits w x × (to_z w (of_z w x) ≡ raise z k)
raise_kept w z k f h l = rw (to_z-of_z f, signed_one_shifted w k h) (fits, to_z-of_z fits)
  where
    fits : SFits w (raise z k)
    fits = fits_abs (raise z k) (rw raise_abs l)

pub raise_raise : (z : ℤ) (i j k : ℕ) → k ≡ i + j → raise (raise z i) j ≡ raise z k
raise_raise z i j k e = *ℤ_assoc z (pos (2 ^ i)) (pos (2 ^ j)) ∙ ap (λ (n : ℕ). z *ℤ pos n) (sym (split k i j e))

-- ---- a number raised and then cut

pub rescale_zero : (i j : ℕ) → rescale (pos 0) i j ≡ pos 0
rescale_zero i j = ap (λ (z : ℤ). cut z j) (zero-*ℤ (pos (2 ^ i))) ∙ cut_zero j

-- no larger in value
pub rescale_most : (z : ℤ) (i j : ℕ) → nat_abs (rescale z i j) * 2 ^ j ≤ nat_abs z * 2 ^ i
rescale_most z i j = omega (arith, cut_scaled (raise z i) j, raise_abs z i)

pub rescale_neg : (z : ℤ) (i j : ℕ) → rescale (neg_ℤ z) i j ≡ neg_ℤ (rescale z i j)
rescale_neg z i j = ap (λ (c : ℤ). cut c j) (raise_neg z i) ∙ cut_neg (raise z i) j

pub rescale_down : (z : ℤ) (i j k : ℕ) → j ≡ i + k → rescale z i j ≡ cut z k
unfolding cut
rescale_down z i j k e = by_sign (λ z. rescale z i j ≡ cut z k) whole (λ z h. rescale_neg z i j ∙ ap neg_ℤ h ∙ sym (cut_neg z k)) z
  where
    whole : (n : ℕ) → pos (n * 2 ^ i / 2 ^ j) ≡ pos (n / 2 ^ k)
    whole n = ap pos (ap (λ (m : ℕ). n * 2 ^ i / m) (omega (arith, split j i k e)) ∙ mul-div-mul_right n (2 ^ k) (pow_pos i))

pub rescale_up : (z : ℤ) (i j k : ℕ) → i ≡ j + k → rescale z i j ≡ raise z k
unfolding cut
rescale_up z i j k e = by_sign (λ z. rescale z i j ≡ raise z k) whole (λ z h. rescale_neg z i j ∙ ap neg_ℤ h ∙ sym (raise_neg z k)) z
  where
    whole : (n : ℕ) → pos (n * 2 ^ i / 2 ^ j) ≡ pos (n * 2 ^ k)
    whole n = ap pos (ap (λ (m : ℕ). m / 2 ^ j) (omega (arith, ap (λ (m : ℕ). n * m) (split i j k e))) ∙ mul-div_cancel (n * 2 ^ k) (pow_pos j))

-- ---- the cut of a product

pub raise_mul : (z a : ℤ) (e : ℕ) → raise z e *ℤ a ≡ raise (z *ℤ a) e
raise_mul z a e =
    *ℤ_assoc z (pos (2 ^ e)) a ∙ ap (λ (y : ℤ). z *ℤ y) (*ℤ_comm (pos (2 ^ e)) a) ∙ sym (*ℤ_assoc z a (pos (2 ^ e)))

-- a factor raised, cut by as many bits more
pub cut_raised : (z a : ℤ) (e k m : ℕ) → k ≡ e + m → cut (raise z e *ℤ a) k ≡ cut (z *ℤ a) m
cut_raised z a e k m h = ap (λ (y : ℤ). cut y k) (raise_mul z a e) ∙ rescale_down (z *ℤ a) e k m h

-- one of the two is negative
abbrev pub unlike : ℤ → ℤ → Bool
unlike z a = not (beq (lt_z a (pos 0)) (lt_z z (pos 0)))

whole : (n : ℕ) → ltb n 0 ≡ false
whole n = le-ltb n 0 (omega arith)

pub cut_alike : (z a : ℤ) (k : ℕ) → unlike z a ≡ false → pos (nat_abs z * nat_abs a / 2 ^ k) ≡ cut (z *ℤ a) k
unfolding cut
cut_alike (pos m) (pos n) k e = refl
cut_alike (pos m) (negsuc n) k e = absurd (subst T (rw (whole m) at e) tt)
cut_alike (negsuc m) (pos n) k e = absurd (subst T (rw (whole n) at e) tt)
cut_alike (negsuc m) (negsuc n) k e = refl

pub cut_unlike : (z a : ℤ) (k : ℕ) → unlike z a ≡ true → neg_ℤ (pos (nat_abs z * nat_abs a / 2 ^ k)) ≡ cut (z *ℤ a) k
unfolding cut
cut_unlike (pos m) (pos n) k e = absurd (subst T (sym (rw (whole m) at (rw (whole n) at e))) tt)
cut_unlike (pos m) (negsuc n) k e = sym (cut_neg (pos (m * suc n)) k)
cut_unlike (negsuc m) (pos n) k e = sym (cut_neg (pos (suc m * n)) k)
cut_unlike (negsuc m) (negsuc n) k e = absurd (subst T (sym e) tt)

-- ---- by shifts that round down

shift_whole : (z : ℤ) (k : ℕ) → pos 0 ≤ℤ z → shr_z z (2 ^ k) ≡ cut z k
unfolding cut
shift_whole (pos n) k h = refl
shift_whole (negsuc n) k h = absurd h.le

-- a negative number is first raised by one less than a unit
shift_negative : (z : ℤ) (k : ℕ) → z <ℤ pos 0 → shr_z (z +ℤ pos (2 ^ k - 1)) (2 ^ k) ≡ cut z k
unfolding cut
shift_negative (pos n) k h = absurd (omega (arith, ltb→lt n 0 h.lt))
shift_negative (negsuc n) k h = go (2 ^ k) (pow_pos k) (dec_le (2 ^ k) (suc n))
  where
    go : (u : ℕ) → 1 ≤ u → Dec (u ≤ suc n) → shr_z (sub_ℕ (u - 1) (suc n)) u ≡ neg_ℤ (pos (suc n / u))
    go u p (yes f) =
        simp (lt-ltb (u - 1) (suc n) (omega arith)) (
        ap (λ (m : ℕ). negsuc (m / u)) (omega arith)
        ∙ ap (λ (m : ℕ). neg_ℤ (pos m)) (sym (add-one ((suc n - u) / u)) ∙ sym (div-eq-sub-div p f)))
    go u p (no f) =
        simp (le-ltb (u - 1) (suc n) (omega arith)) (
        ap pos (div-eq_of_lt {n = u - 1 - suc n} {m = u} (omega arith)) ∙ ap (λ (m : ℕ). neg_ℤ (pos m)) (sym (div-eq_of_lt {n = suc n} {m = u} (omega arith))))

-- in a register, after the test of the sign
pub lift_whole : (w : Width) (z : ℤ) (k : ℕ) → SFits w z → le_z (pos 0) (to_z w (of_z w z)) ≡ true → shr_z (to_z w (of_z w z)) (2 ^ k) ≡ cut z k
lift_whole w z k f t = rw (to_z-of_z f) (shift_whole z k (le_tested (rw (to_z-of_z f) at t)))

pub lift_negative : (w : Width) (z low : ℤ) (k : ℕ) → SFits w z → SFits w low → low ≡ pos (2 ^ k - 1) → le_z (pos 0) (to_z w (of_z w z)) ≡ false →
    let x = to_z w (of_z w z) +ℤ to_z w (of_z w low) in
    SFits w x × (shr_z (to_z w (of_z w x)) (2 ^ k) ≡ cut z k)
lift_negative w z low k f g e t = rw (to_z-of_z f, to_z-of_z g, e) (fits, ap (λ (x : ℤ). shr_z x (2 ^ k)) (to_z-of_z fits) ∙ shift_negative z k below)
  where
    below : z <ℤ pos 0
    below = le_refuted (rw (to_z-of_z f) at t)

    fits : SFits w (z +ℤ pos (2 ^ k - 1))
    fits = fits_opposite z (2 ^ k - 1) below f (rw e at g).sfits

-- what is stored of the shift: of z itself, and of z and 2^k − 1
module _ (w : Width) (z : ℤ) (k : ℕ) (f : SFits w z) where
  shifted : (x : ℤ) → SFits w x → shr_z x (2 ^ k) ≡ cut z k → (y : ℤ) → y ≡ to_z w (of_z w x) → to_z w (of_z w (shr_z y (2 ^ k))) ≡ cut z k
  shifted x g e y d =
      ap (λ (n : ℤ). to_z w (of_z w (shr_z n (2 ^ k)))) (d ∙ to_z-of_z g)
      ∙ to_z-of_z (fits_shr x (2 ^ k) g) ∙ e

  pub cut_whole : lt_z (to_z w (of_z w z)) (pos 0) ≡ false → (y : ℤ) → y ≡ to_z w (of_z w z) → to_z w (of_z w (shr_z y (2 ^ k))) ≡ cut z k
  cut_whole t = shifted z f (shift_whole z k (lt_refuted (rw (to_z-of_z f) at t)))

  pub cut_negative : k < bits w → lt_z (to_z w (of_z w z)) (pos 0) ≡ true → (y : ℤ) →
      y ≡ to_z w (of_z w (to_z w (of_z w z) +ℤ to_z w (1 * 2 ^ k % 2 ^ bits w - 1))) → to_z w (of_z w (shr_z y (2 ^ k))) ≡ cut z k
  cut_negative h t y d =
      shifted (z +ℤ pos (2 ^ k - 1)) fits (shift_negative z k below) y
      (d ∙ simp (to_z-of_z f, ones_are w k h) refl)
    where
      below : z <ℤ pos 0
      below = lt_tested (rw (to_z-of_z f) at t)

      fits : SFits w (z +ℤ pos (2 ^ k - 1))
      fits = fits_opposite z (2 ^ k - 1) below f (rw (one_shifted w k h) at (ones_fit w k h).1)

-- ---- one shift up and one down, of which one is none

pub rescale_shifts : (z : ℤ) (i j : ℕ) → rescale z i j ≡ rescale z (i - j) (j - i)
rescale_shifts z i j = go (dec_le i j)
  where
    go : Dec (i ≤ j) → rescale z i j ≡ rescale z (i - j) (j - i)
    go (yes l) = rescale_down z i j (j - i) (omega arith) ∙ sym (rescale_down z (i - j) (j - i) (j - i) (omega arith))
    go (no l) = rescale_up z i j (i - j) (omega arith) ∙ sym (rescale_up z (i - j) (j - i) (i - j) (omega arith))
