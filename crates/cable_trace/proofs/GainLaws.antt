-- The gain: the largest of those that s takes, from the bit length of |s|.
use mathlib.Core.Path.{◌≡◌, refl, sym, ap, ap₂, ◌∙◌, subst}
use mathlib.Core.Bool.{Bool, true, false, cond}
use mathlib.Core.List.{List}
use mathlib.Core.Logic.{◌⊎◌, inl, inr}
use Prim.Native.Nat.{ℕ, zero, suc, ◌+◌, ◌*◌, ◌-◌, ◌^◌, ◌≤◌, ◌<◌}
use native.Mathlib.Omega.{arith}
use native.Mathlib.Nat.{eq-or-lt_of_le, mul-le-mul_left, lt_of_le_of_lt}
use lib.Dec.{T, leb, ltb}
use lib.IntN.{ℤ, nat_abs}
use borrow.Author.Tests.{lt-ltb, le-ltb, le-leb, ltb-true, ltb-false, leb-true, leb-false}
use mir.Syntax.{w16}
use mir.Val.{SFits}
use Rattle.laws.specs.Machine.{fits_abs}
use Rattle.laws.specs.Lists.{all, and_left, and_right}
use Rattle.laws.specs.Powers.{rises, lower}
use Rattle.laws.specs.Powers as Powers
use Rattle.laws.specs.Sums.{Each}
use Rattle.laws.specs.Tests.{both, each_tested}
use Rattle.numbers.specs.BitLength.{bit_length}
use Rattle.numbers.specs.Cut.{raise, rescale}
use Rattle.numbers.proofs.BitLengthLaws.{bit_length_above, bit_length_zero, bit_length_le, bit_length_lt}
use Rattle.numbers.proofs.CutLaws.{rescale_most, rescale_up, rescale_shifts}
use Rattle.steps.specs.Limits.{data_unit, symbol_limit, gain_limit}
use Rattle.steps.specs.Settings.{Settings}
use Rattle.steps.specs.Fir.{magnitudes}
use Rattle.steps.specs.Sound.{or_all}
use Rattle.steps.proofs.LargestLaws.{or_all_largest_bits}
use Rattle.steps.proofs.LargestBitsTests.{by_largest_bits}
use Rattle.cable_trace.specs.Cable.{takes_gain, greatest, gain, has_gain, sample, gain_available}
use Rattle.cable_trace.specs.Calls.{Gainable, gain_of, float_digits, float_offset, float_bits, exponent_in, leading}
use Rattle.cable_trace.proofs.FloatLaws.{float_exponent}

-- ---- the greatest number that passes

both_ways : true ≡ false → ⊥
both_ways e = subst T e tt

module _ (test : ℕ → Bool) where
  pub greatest_most : (g : ℕ) → greatest test g ≤ g
  unfolding greatest
  greatest_most zero = omega arith
  greatest_most (suc g) = go (test (suc g)) (greatest_most g)
    where
      go : (b : Bool) → greatest test g ≤ g → cond b (suc g) (greatest test g) ≤ suc g
      go true rest = omega arith
      go false rest = omega (arith, rest)

  -- what passes is not above it, and then it passes itself
  pub greatest_from : (g k : ℕ) → k ≤ g → test k ≡ true → (test (greatest test g) ≡ true) × (k ≤ greatest test g)
  unfolding greatest
  greatest_from zero zero h e = (e, omega arith)
  greatest_from zero (suc k) h e = absurd (omega arith)
  greatest_from (suc g) k h e = go (test (suc g)) refl (eq-or-lt_of_le h) (λ l. greatest_from g k l e)
    where
      go : (b : Bool) → test (suc g) ≡ b → (k ≡ suc g) ⊎ (k < suc g) → (k ≤ g → (test (greatest test g) ≡ true) × (k ≤ greatest test g)) →
          (test (cond b (suc g) (greatest test g)) ≡ true) × (k ≤ cond b (suc g) (greatest test g))
      go true f q rest = (f, h)
      go false f (inl q) rest = absurd (both_ways (sym e ∙ ap test q ∙ f))
      go false f (inr q) rest = rest (omega arith)

  pub greatest_is : (g k : ℕ) → k ≤ g → test k ≡ true → ((j : ℕ) → k < j → j ≤ g → test j ≡ false) → greatest test g ≡ k
  greatest_is g k h e none = go (eq-or-lt_of_le (greatest_from g k h e).1)
    where
      go : (k ≡ greatest test g) ⊎ (k < greatest test g) → greatest test g ≡ k
      go (inl q) = sym q
      go (inr q) = absurd (both_ways (sym (greatest_from g k h e).0 ∙ none (greatest test g) q (greatest_most g)))

-- ---- the largest gain that s takes

module _ (r : ℕ) (s : ℤ) where
  pub gain_most : gain r s ≤ gain_limit
  unfolding gain
  gain_most = greatest_most (takes_gain r s) gain_limit

  -- what s takes is no larger, and then there is a gain
  pub gain_largest : (g : ℕ) → g ≤ gain_limit → takes_gain r s g ≡ true → (has_gain r s ≡ true) × (g ≤ gain r s)
  unfolding gain
  gain_largest g h e = greatest_from (takes_gain r s) gain_limit g h e

  -- where there is none, s takes none
  pub gain_none : has_gain r s ≡ false → (g : ℕ) → g ≤ gain_limit → takes_gain r s g ≡ false
  gain_none e g h = go (takes_gain r s g) refl
    where
      go : (b : Bool) → takes_gain r s g ≡ b → b ≡ false
      go true f = absurd (both_ways (sym (gain_largest g h f).0 ∙ e))
      go false f = refl

  gain_is : (g : ℕ) → g ≤ gain_limit → nat_abs s * 2 ^ g < 2 ^ (data_unit + r) → ((j : ℕ) → g < j → j ≤ gain_limit → 2 ^ (data_unit + r) ≤ nat_abs s * 2 ^ j) → gain r s ≡ g
  unfolding gain
  gain_is g h e none = greatest_is (takes_gain r s) gain_limit g h (lt-ltb _ _ e) (λ j l m. le-ltb _ _ (none j l m))

  -- no more digits than r: the largest there is
  pub gain_few : bit_length (nat_abs s) ≤ r → gain_limit ≡ gain r s
  gain_few h = sym (gain_is gain_limit (omega arith) (Powers.raise (nat_abs s) (data_unit + r) r gain_limit (omega arith) below) (λ j l m. absurd (omega arith)))
    where
      below : nat_abs s < 2 ^ r
      below = omega (arith, bit_length_above (nat_abs s), rises h)

  -- a bit length is the least power that s is below
  pub gain_many : r < bit_length (nat_abs s) → bit_length (nat_abs s) ≤ data_unit + r → data_unit + r - bit_length (nat_abs s) ≡ gain r s
  gain_many h k = sym (gain_is (data_unit + r - n) (omega arith) (Powers.raise (nat_abs s) (data_unit + r) n (data_unit + r - n) (omega arith) (bit_length_above (nat_abs s))) larger)
    where
      n : ℕ
      n = bit_length (nat_abs s)

      larger : (j : ℕ) → data_unit + r - n < j → j ≤ gain_limit → 2 ^ (data_unit + r) ≤ nat_abs s * 2 ^ j
      larger j l m = go (ltb (nat_abs s * 2 ^ j) (2 ^ (data_unit + r))) refl
        where
          go : (b : Bool) → ltb (nat_abs s * 2 ^ j) (2 ^ (data_unit + r)) ≡ b → 2 ^ (data_unit + r) ≤ nat_abs s * 2 ^ j
          go true e = absurd (omega (arith, l, k, bit_length_le (nat_abs s) (data_unit + r - j) (lower (nat_abs s) (data_unit + r) (data_unit + r - j) j (omega arith) (ltb-true _ _ e))))
          go false e = ltb-false _ _ e

  -- with a gain, |s| < 2^(15+r)
  pub gain_bits : has_gain r s ≡ true → bit_length (nat_abs s) ≤ data_unit + r
  gain_bits e =
      bit_length_le (nat_abs s) (data_unit + r)
      (omega (arith, ltb-true (nat_abs s * 2 ^ gain r s) (2 ^ (data_unit + r)) e, mul-le-mul_left (nat_abs s) (rises {a = 0} {b = gain r s} (omega arith))))

  -- |m| < 2^15
  pub sample_small : has_gain r s ≡ true → nat_abs (sample r s) < 2 ^ data_unit
  unfolding sample
  sample_small e =
      lower (nat_abs (rescale s (gain r s) r)) (data_unit + r) data_unit r (omega arith) (lt_of_le_of_lt (rescale_most s (gain r s) r) (ltb-true _ _ e))

-- ---- by the bit length of |s|

pub bits_some : (s : ℤ) → 0 < bit_length (nat_abs s) → 0 < nat_abs s
bits_some s h = go (nat_abs s) h
  where
    go : (n : ℕ) → 0 < bit_length n → 0 < n
    go zero l = absurd (omega (arith, bit_length_zero))
    go (suc n) l = omega arith

module _ (r : ℕ) (s : ℤ) (h : Gainable r s) where
  pub bits_most : bit_length (nat_abs s) ≤ 18
  bits_most = omega (arith, gain_bits r s h.has, h.r_most)

  pub small : nat_abs s < 2 ^ float_digits
  small = omega (arith, bit_length_lt (nat_abs s) 18 bits_most)

  -- by the exponent of its bits
  pub exponent_bits : (b : ℕ) → b ≡ float_bits s → (exponent_in b - float_offset ≡ bit_length (nat_abs s)) × (exponent_in b ≤ float_offset + bit_length (nat_abs s))
  exponent_bits b e = rw e (float_exponent s small)

  -- a sample fits 16 bits
  pub sample_fits : (x : ℤ) → x ≡ sample r s → SFits w16 x
  sample_fits x e = rw e (fits_abs (sample r s) (sample_small r s h.has))

  pub few_small : bit_length (nat_abs s) ≤ r → nat_abs s * 2 ^ (gain_limit - r) < 2 ^ 31
  few_small few = omega (arith, Powers.raise (nat_abs s) gain_limit r (gain_limit - r) (omega (arith, h.r_most)) (bit_length_lt (nat_abs s) r few))

  pub gain_of_lem : gain_of r (bit_length (nat_abs s)) ≡ gain r s
  gain_of_lem = go (leb (bit_length (nat_abs s)) r) refl
    where
      go : (b : Bool) → leb (bit_length (nat_abs s)) r ≡ b → cond b gain_limit (data_unit + r - bit_length (nat_abs s)) ≡ gain r s
      go true e = gain_few r s (leb-true (bit_length (nat_abs s)) r e)
      go false e = gain_many r s (leb-false (bit_length (nat_abs s)) r e) (gain_bits r s h.has)

  -- no more digits than r: nothing is cut
  pub sample_few : bit_length (nat_abs s) ≤ r → sample r s ≡ raise s (gain_limit - r)
  unfolding sample
  sample_few few = ap (λ (g : ℕ). rescale s g r) (sym (gain_few r s few)) ∙ rescale_up s gain_limit r (gain_limit - r) (omega (arith, h.r_most))

  -- more digits: the first 15
  pub sample_many : r < bit_length (nat_abs s) → sample r s ≡ leading s
  unfolding sample
  sample_many many =
      let n = bit_length (nat_abs s) in
      let up : data_unit + r - n - r ≡ float_digits - n - (float_digits - data_unit) = omega (arith, gain_bits r s h.has) in
      let down : r - (data_unit + r - n) ≡ float_digits - data_unit - (float_digits - n) = omega (arith, gain_bits r s h.has, bits_most) in
      ap (λ (g : ℕ). rescale s g r) (sym (gain_many r s many (gain_bits r s h.has)))
      ∙ rescale_shifts s (data_unit + r - n) r ∙ ap₂ (rescale s) up down ∙ sym (rescale_shifts s (float_digits - n) (float_digits - data_unit))

-- ---- the gains of a list

module _ (k : Settings) (L_most : k.L ≤ gain_limit) where
  fits_below : (s : ℤ) → gain_available k s ≡ true → nat_abs s < 2 ^ (data_unit + k.r - k.L)
  fits_below s e =
      lower (nat_abs s) (data_unit + k.r) (data_unit + k.r - k.L) k.L (omega arith)
      (lt_of_le_of_lt (mul-le-mul_left (nat_abs s) (rises (leb-true k.L (gain k.r s) (and_right (has_gain k.r s) (leb k.L (gain k.r s)) e))))
      (ltb-true _ _ (and_left (has_gain k.r s) (leb k.L (gain k.r s)) e)))

  below_fits : (s : ℤ) → nat_abs s < 2 ^ (data_unit + k.r - k.L) → gain_available k s ≡ true
  below_fits s h =
      let t = gain_largest k.r s k.L L_most (lt-ltb _ _ (Powers.raise (nat_abs s) (data_unit + k.r) (data_unit + k.r - k.L) k.L (omega arith) h)) in
      both (has_gain k.r s) (leb k.L (gain k.r s)) t.0 (le-leb k.L (gain k.r s) t.1)

  -- by the bits of every |s| together
  pub gains_fit : (l : List ℤ) → leb (bit_length (or_all (magnitudes l))) (data_unit + k.r - k.L) ≡ all (gain_available k) l
  gains_fit l = ap (λ (n : ℕ). leb n (data_unit + k.r - k.L)) (or_all_largest_bits l) ∙ by_largest_bits (gain_available k) (data_unit + k.r - k.L) fits_below below_fits l

pub gains_each : (k : Settings) (l : List ℤ) → k.r ≤ symbol_limit → all (gain_available k) l ≡ true → Each (Gainable k.r) l
gains_each k l h e =
    each_tested (gain_available k) (Gainable k.r) (λ s f. record { r_most = h; has = and_left (has_gain k.r s) (leb k.L (gain k.r s)) f }) l e
