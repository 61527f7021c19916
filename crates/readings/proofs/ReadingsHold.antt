-- Every list that can be read: exact readings, one rounded division, and a power that is a mean exactly where no a was cut.
use mathlib.Core.Path.{◌≡◌, refl, sym, ap, ◌∙◌}
use mathlib.Core.Bool.{Bool, true, false, ◌&&◌, true≢false}
use mathlib.Core.List.{List, [], ◌∷◌}
use Prim.Native.Nat.{ℕ, suc, ◌+◌, ◌*◌, ◌-◌, ◌/◌, ◌^◌, ◌≤◌, ◌<◌}
use native.Mathlib.Omega.{arith}
use native.Mathlib.Nat.{mul-le-mul, div-add-mod', mod-lt, div-mul-le_self, div-le_self}
use lib.IntN.{ℤ, pos, nat_abs}
use lib.ListN.{length, get_or}
use lib.Ieee.{binary64, round}
use lib.Ieee.Fits.{round-fits}
use borrow.Author.Tests.{le-leb, leb-true, leb-false}
use Rattle.laws.specs.Lists.{all}
use Rattle.laws.specs.Powers.{split, positive}
use Rattle.laws.specs.Sums.{each_at}
use Rattle.laws.specs.Tests.{each_tested, tested_each, refuted}
use Rattle.steps.specs.Limits.{output_unit, block_limit}
use Rattle.steps.specs.Fir.{all_below}
use Rattle.steps.proofs.LargestLaws.{all_below_lem}
use Rattle.floats.specs.Floats.{negative, AtMost, Nearest}
use Rattle.floats.specs.ValueLaws.{same_value, exact, whole_value, round_zero}
use Rattle.floats.specs.NearestLaws.{small, rounded_nearest, nearest_at_most, at_most_more}
use Rattle.readings.specs.Limits.{output_limit, error_limit, amplitude_limit, amplitude_shift}
use Rattle.readings.specs.Readings.{Lists, value_of, amplitude, amplitudes, counted, is_uncut, squares, quotient, readable}
use Rattle.readings.specs.Calls.{Exponent}
use Rattle.readings.specs.Holds.{Exactly, exact_squares, squares_above, Uncut, ReadExactly, DividedOnce, ReadingsHold, ZeroIsPlus}
use Rattle.readings.proofs.ListLaws.{exponent_at, pairs_length, pairs_at, amplitudes_length, squares_bound, power_is}
use Rattle.readings.proofs.ReadableLaws.{Readable, readable_says}
use Rattle.readings.proofs.ValueLaws.{quotient_is}

-- ---- a value

pub value_exact : (m : ℤ) (e : ℕ) → nat_abs m < 2 ^ 53 → Exponent e → Exactly (value_of m e) m e
unfolding value_of
value_exact m e h k =
    same_value (value_of m e) (negative m) (nat_abs m) (2 ^ (output_unit - e)) (nat_abs m * 2 ^ e) (2 ^ output_unit) (positive (output_unit - e))
    (scaled (nat_abs m) e (output_unit - e) (omega (arith, k.1))) (exact (negative m) (nat_abs m) (output_unit - e) h (omega arith))
  where
    scaled : (a e k : ℕ) → output_unit ≡ e + k → a * 2 ^ e * 2 ^ k ≡ a * 2 ^ output_unit
    scaled a e k h = omega (arith, ap (λ (x : ℕ). a * x) (split output_unit e k h))

pub zero_plus : ZeroIsPlus
unfolding value_of quotient
zero_plus = ((λ e. round_zero (2 ^ (output_unit - e)) (positive (output_unit - e))), (λ n h. round_zero (65536 * n) (omega arith)))

below_at : (limit : ℕ) (l : List ℤ) (i : ℕ) → all_below limit l ≡ true → i < length l → nat_abs (get_or l i (pos 0)) < limit
below_at limit l i e h = each_at (λ (x : ℤ). nat_abs x < limit) l i (pos 0) (all_below_lem limit l e) h

-- ---- the sums

module _ (q : ℕ) where
  low : let a = counted (q / 2 ^ amplitude_shift) in a * a * 2 ^ (2 * amplitude_shift) ≤ q * q
  low = let h : counted (q / 2 ^ amplitude_shift) * 2 ^ amplitude_shift ≤ q = omega arith in omega (arith, mul-le-mul h h)

  high : q / 2 ^ amplitude_shift ≤ amplitude_limit → let a = counted (q / 2 ^ amplitude_shift) in q * q < (a + 1) * (a + 1) * 2 ^ (2 * amplitude_shift)
  high k =
      let a = counted (q / 2 ^ amplitude_shift) in
      let h : q + 1 ≤ (a + 1) * 2 ^ amplitude_shift = omega arith in
      omega (arith, mul-le-mul h h)

sums_low : (Z : List ℤ) (θ : List ℕ) → squares (amplitudes Z θ) * 2 ^ (2 * amplitude_shift) ≤ exact_squares Z θ
unfolding squares amplitudes exact_squares
sums_low [] θ = omega arith
sums_low (z ∷ Z) [] = omega arith
sums_low (z ∷ Z) (t ∷ θ) = joined (counted (amplitude z t)) (nat_abs z * 2 ^ t) (squares (amplitudes Z θ)) (exact_squares Z θ) (low (nat_abs z * 2 ^ t)) (sums_low Z θ)
  where
    joined : (a q s e : ℕ) → a * a * 2 ^ (2 * amplitude_shift) ≤ q * q → s * 2 ^ (2 * amplitude_shift) ≤ e → (a * a + s) * 2 ^ (2 * amplitude_shift) ≤ q * q + e
    joined a q s e h k = omega arith

-- at most, and less where there is one
sums_high : (Z : List ℤ) (θ : List ℕ) → Uncut (amplitudes Z θ) → exact_squares Z θ + length (amplitudes Z θ) ≤ squares_above (amplitudes Z θ) * 2 ^ (2 * amplitude_shift)
unfolding squares_above amplitudes exact_squares
sums_high [] θ u = omega arith
sums_high (z ∷ Z) [] u = omega arith
sums_high (z ∷ Z) (t ∷ θ) u =
    joined (counted (amplitude z t) + 1) (nat_abs z * 2 ^ t) (squares_above (amplitudes Z θ)) (exact_squares Z θ) (length (amplitudes Z θ)) (high (nat_abs z * 2 ^ t) u.0) (sums_high Z θ u.1)
  where
    joined : (a q s e n : ℕ) → q * q < a * a * 2 ^ (2 * amplitude_shift) → e + n ≤ s * 2 ^ (2 * amplitude_shift) → q * q + e + suc n ≤ (a * a + s) * 2 ^ (2 * amplitude_shift)
    joined a q s e n h k = omega arith

-- with a cut the sum falls short by more than what the division rounds
high_cut : (q : ℕ) → is_uncut (q / 2 ^ amplitude_shift) ≡ false → let a = counted (q / 2 ^ amplitude_shift) in (a * a + 1) * 2 ^ (2 * amplitude_shift) ≤ q * q
high_cut q e =
    let c : amplitude_limit < q / 2 ^ amplitude_shift = leb-false (q / 2 ^ amplitude_shift) amplitude_limit e in
    let h : 65536 * 2 ^ amplitude_shift ≤ q = omega arith in
    let k : counted (q / 2 ^ amplitude_shift) ≡ amplitude_limit = omega arith in
    omega (arith, mul-le-mul h h, ap (λ (x : ℕ). x * x) k)

sums_cut : (Z : List ℤ) (θ : List ℕ) → all is_uncut (amplitudes Z θ) ≡ false → (squares (amplitudes Z θ) + 1) * 2 ^ (2 * amplitude_shift) ≤ exact_squares Z θ
unfolding squares amplitudes exact_squares
sums_cut [] θ e = absurd (true≢false e)
sums_cut (z ∷ Z) [] e = absurd (true≢false e)
sums_cut (z ∷ Z) (t ∷ θ) e = go (is_uncut (amplitude z t)) refl e (λ f. sums_cut Z θ f)
  where
    q : ℕ
    q = nat_abs z * 2 ^ t

    first : (a q s e : ℕ) → (a * a + 1) * 2 ^ (2 * amplitude_shift) ≤ q * q → s * 2 ^ (2 * amplitude_shift) ≤ e → (a * a + s + 1) * 2 ^ (2 * amplitude_shift) ≤ q * q + e
    first a q s e h k = omega arith

    later : (a q s e : ℕ) → a * a * 2 ^ (2 * amplitude_shift) ≤ q * q → (s + 1) * 2 ^ (2 * amplitude_shift) ≤ e → (a * a + s + 1) * 2 ^ (2 * amplitude_shift) ≤ q * q + e
    later a q s e h k = omega arith

    go : (b : Bool) → is_uncut (amplitude z t) ≡ b → (b && all is_uncut (amplitudes Z θ)) ≡ false → (all is_uncut (amplitudes Z θ) ≡ false → (squares (amplitudes Z θ) + 1) * 2 ^ (2 * amplitude_shift) ≤ exact_squares Z θ) →
        (counted (amplitude z t) * counted (amplitude z t) + squares (amplitudes Z θ) + 1) * 2 ^ (2 * amplitude_shift) ≤ q * q + exact_squares Z θ
    go true f g rest = later (counted (amplitude z t)) q (squares (amplitudes Z θ)) (exact_squares Z θ) (low q) (rest g)
    go false f g rest = first (counted (amplitude z t)) q (squares (amplitudes Z θ)) (exact_squares Z θ) (high_cut q f) (sums_low Z θ)

-- ---- mean or floor

uncut_all : (l : List ℕ) → Uncut l → all is_uncut l ≡ true
uncut_all l u = tested_each is_uncut (λ x. x ≤ amplitude_limit) (λ x h. le-leb x amplitude_limit h) l u

all_uncut : (l : List ℕ) → all is_uncut l ≡ true → Uncut l
all_uncut l e = each_tested is_uncut (λ x. x ≤ amplitude_limit) (λ x h. leb-true x amplitude_limit h) l e

some_cut : (l : List ℕ) → (Uncut l → ⊥) → all is_uncut l ≡ false
some_cut l c = sym (refuted (all is_uncut l) (λ e. c (all_uncut l e)))

rounded : (sum n : ℕ) → sum < 2 ^ 39 → 1 ≤ n → Nearest binary64 (quotient sum n) sum (65536 * n)
unfolding quotient
rounded sum n h some = rounded_nearest binary64 sum (65536 * n) (omega arith) (small sum (65536 * n) 39 (omega arith) h (omega arith))

-- a sum over 65536·n, rounded, is at most one more over it: between them lies k / 2^23, which is not rounded
module _ (sum n : ℕ) (h : sum < 2 ^ 39) (some : 1 ≤ n) (few : n ≤ block_limit) where
  abbrev k : ℕ
  k = sum * 128 / n + 1

  k_least : sum * 128 < k * n
  k_least = omega (arith, div-add-mod' (sum * 128) n, mod-lt (sum * 128) some)

  k_most : k * n ≤ (sum + 1) * 128
  k_most = omega (arith, div-mul-le_self (sum * 128) n, few)

  quotient_most : (e : ℕ) → (sum + 1) * 2 ^ (2 * amplitude_shift) ≤ e → AtMost (quotient sum n) e (65536 * n * 2 ^ (2 * amplitude_shift))
  unfolding quotient
  quotient_most e g =
      at_most_more (quotient sum n) k (2 ^ 23) e (65536 * n * 2 ^ (2 * amplitude_shift)) (positive 23) (omega (arith, k_most, g))
      (nearest_at_most binary64 (quotient sum n) sum (65536 * n) (omega (arith, some)) (rounded sum n h some) (round binary64 false k (2 ^ 23)) k (2 ^ 23) (round-fits binary64 false k (2 ^ 23))
      (exact false k 23 (omega (arith, div-le_self (sum * 128) n, h)) (omega arith)) (positive 23) (omega (arith, k_least)))

-- ---- all of it

module _ (l : Lists) (n : ℕ) (ok : readable l n ≡ true) where
  r : Readable l n
  r = readable_says ok

  abbrev a : List ℕ
  a = amplitudes l.z l.theta

  long : length a ≡ n
  long = amplitudes_length l.z l.theta (r.fill.long.theta_long ∙ sym r.fill.long.z_long) ∙ r.fill.long.z_long

  sum_small : squares a < 2 ^ 39
  sum_small = omega (arith, squares_bound a, long, r.fill.long.few)

  read : (i : ℕ) → i < n → ReadExactly l i
  read i h =
      let f = r.fill in
      let y_in : i < length l.y = omega (arith, f.long.y_long) in
      let xi_in : i < length l.xi = omega (arith, f.long.xi_long) in
      let z_in : i < length l.z = omega (arith, f.long.z_long) in
      let theta_in : i < length l.theta = omega (arith, f.long.theta_long) in
      record {
        y_exact = value_exact (get_or l.y i (pos 0)) (get_or l.xi i 0) (omega (arith, below_at output_limit l.y i r.y_small y_in)) (exponent_at l.xi i f.xi_fit xi_in);
        error_exact = value_exact (get_or l.z i (pos 0)) (get_or l.theta i 0) (omega (arith, below_at error_limit l.z i r.z_small z_in)) (exponent_at l.theta i f.theta_fit theta_in);
        placed = pairs_at l.y l.xi l.z l.theta i [] y_in xi_in z_in theta_in;
      }

  divided : DividedOnce a n
  divided = record {
    sum_exact = whole_value (pos (squares a)) (omega (arith, sum_small));
    divisor_exact = whole_value (pos (65536 * n)) (omega (arith, r.fill.long.few));
    divided = sym (quotient_is (squares a) n (omega (arith, sum_small)) r.fill.long.some r.fill.long.few);
    nearest = rounded (squares a) n sum_small r.fill.long.some;
  }

  pub readings_hold : ReadingsHold l n
  readings_hold = record {
    long = let f = r.fill in pairs_length l.y l.xi l.z l.theta n f.long.y_long f.long.xi_long f.long.z_long f.long.theta_long;
    readings = read;
    power = divided;
    mean = λ u. power_is l.z l.theta n long (uncut_all a u);
    floor = λ c. power_is l.z l.theta n long (some_cut a c);
    at_least = sums_low l.z l.theta;
    below = λ u. omega (arith, sums_high l.z l.theta u, long, r.fill.long.some);
    floor_below = λ c. quotient_most (squares a) n sum_small r.fill.long.some r.fill.long.few (exact_squares l.z l.theta) (sums_cut l.z l.theta (some_cut a c));
  }
