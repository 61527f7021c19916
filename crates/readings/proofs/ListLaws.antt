-- The lists of readings and of a, place by place, and the sum of a².
use mathlib.Core.Path.{◌≡◌, refl, sym, ap, ap₂, ◌∙◌}
use mathlib.Core.Bool.{Bool, true, cond, ◌&&◌}
use mathlib.Core.List.{List, [], ◌∷◌}
use Prim.Native.Nat.{ℕ, zero, suc, ◌+◌, ◌*◌, ◌≤◌, ◌<◌}
use native.Mathlib.Omega.{arith}
use native.Mathlib.Nat.{le_of_suc-le-suc, not-suc-le-zero, suc_inj, mul-le-mul}
use native.Mathlib.Numerals.{add-one}
use lib.IntN.{ℤ, pos}
use lib.ListN.{length, get_or, take, set}
use lib.Seq.{take_all, length-take-le}
use lib.Dec.{leb}
use lib.Ieee.{Float}
use borrow.Author.Tests.{leb-true, le-leb}
use Rattle.laws.specs.Lists.{and_left, and_right, all, all_at}
use Rattle.laws.specs.Loops.{Written, written_none, written_next, written_all, Tested, tested_none, tested_next, tested_all}
use Rattle.laws.specs.Sums.{Each}
use Rattle.laws.specs.Tests.{tested_each}
use Rattle.steps.specs.Limits.{block_limit, output_exponent_limit}
use Rattle.readings.specs.Limits.{amplitude_limit}
use Rattle.readings.specs.Calls.{Exponent, Fillable, sum_limit, sum_of, power_from}
use Rattle.readings.specs.Readings.{Lists, pair_of, reading_of, readings_of, pairs, amplitude, amplitudes, counted, is_uncut, squares, quotient, power_of, exponent_fits}
use Rattle.readings.specs.declared.Reading.{Reading}
use Rattle.readings.specs.declared.errors.Sum.{Sum}
use Rattle.readings.specs.declared.Power.TheVariants.{Mean, Floor}

-- ---- exponents

pub exponent_at : (l : List ℕ) (i : ℕ) → all exponent_fits l ≡ true → i < length l → Exponent (get_or l i 0)
exponent_at l i e h =
    let x = get_or l i 0 in
    let f = all_at exponent_fits l i 0 e h in
    (leb-true 1 x (and_left (leb 1 x) (leb x output_exponent_limit) f), leb-true x output_exponent_limit (and_right (leb 1 x) (leb x output_exponent_limit) f))

pub exponents_fit : (l : List ℕ) → Each Exponent l → all exponent_fits l ≡ true
exponents_fit l h = tested_each exponent_fits Exponent (λ x k. simp (le-leb 1 x k.0, le-leb x output_exponent_limit k.1)) l h

-- ---- readings

pub pairs_length : (Y : List ℤ) (ξ : List ℕ) (Z : List ℤ) (θ : List ℕ) (n : ℕ) → length Y ≡ n → length ξ ≡ n → length Z ≡ n → length θ ≡ n → length (pairs Y ξ Z θ) ≡ n
unfolding pairs
pairs_length [] ξ Z θ n a b c d = a
pairs_length (y ∷ Y) [] Z θ n a b c d = b
pairs_length (y ∷ Y) (x ∷ ξ) [] θ n a b c d = c
pairs_length (y ∷ Y) (x ∷ ξ) (z ∷ Z) [] n a b c d = d
pairs_length (y ∷ Y) (x ∷ ξ) (z ∷ Z) (t ∷ θ) zero a b c d = absurd (omega arith)
pairs_length (y ∷ Y) (x ∷ ξ) (z ∷ Z) (t ∷ θ) (suc n) a b c d = ap suc (pairs_length Y ξ Z θ n (suc_inj a) (suc_inj b) (suc_inj c) (suc_inj d))

pub pairs_at : (Y : List ℤ) (ξ : List ℕ) (Z : List ℤ) (θ : List ℕ) (i : ℕ) (d : List Float) → i < length Y → i < length ξ → i < length Z → i < length θ →
    get_or (pairs Y ξ Z θ) i d ≡ pair_of (reading_of (get_or Y i (pos 0)) (get_or ξ i 0) (get_or Z i (pos 0)) (get_or θ i 0))
unfolding pairs
pairs_at [] ξ Z θ i d h k l m = absurd (not-suc-le-zero h)
pairs_at (y ∷ Y) [] Z θ i d h k l m = absurd (not-suc-le-zero k)
pairs_at (y ∷ Y) (x ∷ ξ) [] θ i d h k l m = absurd (not-suc-le-zero l)
pairs_at (y ∷ Y) (x ∷ ξ) (z ∷ Z) [] i d h k l m = absurd (not-suc-le-zero m)
pairs_at (y ∷ Y) (x ∷ ξ) (z ∷ Z) (t ∷ θ) zero d h k l m = refl
pairs_at (y ∷ Y) (x ∷ ξ) (z ∷ Z) (t ∷ θ) (suc i) d h k l m =
    pairs_at Y ξ Z θ i d (le_of_suc-le-suc h) (le_of_suc-le-suc k) (le_of_suc-le-suc l) (le_of_suc-le-suc m)

-- ---- a

pub amplitudes_length : (Z : List ℤ) (θ : List ℕ) → length θ ≡ length Z → length (amplitudes Z θ) ≡ length Z
unfolding amplitudes
amplitudes_length [] θ e = refl
amplitudes_length (z ∷ Z) [] e = e
amplitudes_length (z ∷ Z) (t ∷ θ) e = ap suc (amplitudes_length Z θ (suc_inj e))

pub amplitudes_at : (Z : List ℤ) (θ : List ℕ) (i : ℕ) → i < length Z → i < length θ → get_or (amplitudes Z θ) i 0 ≡ amplitude (get_or Z i (pos 0)) (get_or θ i 0)
unfolding amplitudes
amplitudes_at [] θ i h k = absurd (not-suc-le-zero h)
amplitudes_at (z ∷ Z) [] i h k = absurd (not-suc-le-zero k)
amplitudes_at (z ∷ Z) (t ∷ θ) zero h k = refl
amplitudes_at (z ∷ Z) (t ∷ θ) (suc i) h k = amplitudes_at Z θ i (le_of_suc-le-suc h) (le_of_suc-le-suc k)

-- ---- the sum of a²

squares_take : (l : List ℕ) (i : ℕ) → i < length l → squares (take (suc i) l) ≡ squares (take i l) + counted (get_or l i 0) * counted (get_or l i 0)
unfolding squares
squares_take [] i h = absurd (not-suc-le-zero h)
squares_take (a ∷ l) zero h = omega arith
squares_take (a ∷ l) (suc i) h = omega (arith, squares_take l i (le_of_suc-le-suc h))

pub square_small : (a c : ℕ) → c ≡ counted a → c * c ≤ amplitude_limit * amplitude_limit
square_small a c e = let h : c ≤ amplitude_limit = omega arith in mul-le-mul h h

pub squares_bound : (l : List ℕ) → squares l ≤ length l * (amplitude_limit * amplitude_limit)
unfolding squares
squares_bound [] = omega arith
squares_bound (a ∷ l) = omega (arith, squares_bound l, square_small a (counted a) refl)

-- what a loop has of the first i
pub record Summed (l : List ℕ) (sum : ℕ) (uncut : Bool) (i : ℕ) : Type 0 where
  pub is : sum ≡ squares (take i l)
  pub tested : Tested is_uncut l uncut i

pub summed_none : (l : List ℕ) → Summed l 0 true 0
unfolding squares
summed_none l = record { is = refl; tested = tested_none is_uncut l }

module _ {l : List ℕ} {sum : ℕ} {uncut : Bool} {i : ℕ} (s : Summed l sum uncut i) where
  pub summed_small : length l ≤ block_limit → i ≤ length l → sum ≤ sum_limit
  summed_small h k = omega (arith, s.is, squares_bound (take i l), length-take-le i l k)

  -- one a more
  pub summed_next : (a : ℕ) {one : Bool} → i < length l → a ≡ get_or l i 0 → one ≡ is_uncut a → Summed l (sum + counted a * counted a) (uncut && one) (i + 1)
  summed_next a h e f = record {
    is = ap₂ (λ (x y : ℕ). x + counted y * counted y) s.is e ∙ sym (squares_take l i h) ∙ ap (λ (j : ℕ). squares (take j l)) (sym (add-one i));
    tested = tested_next s.tested 0 h (f ∙ ap is_uncut e);
  }

  pub summed_all : length l ≤ i → (sum ≡ squares l) × (uncut ≡ all is_uncut l)
  summed_all h = (s.is ∙ ap squares (take_all i l h), tested_all s.tested h)

-- ---- the readings and the sum, as a loop has them of the first i places

pub record Filled (l : Lists) (before : List (List Float)) (i : ℕ) (now : List (List Float)) (s : Sum) : Type 0 where
  pub written : Written (readings_of l) before i now
  pub summed : Summed (amplitudes l.z l.theta) s.sum s.uncut i

pub filled_none : (l : Lists) (before : List (List Float)) → Filled l before 0 before (record { sum = 0; uncut = true })
filled_none l before = record { written = written_none (readings_of l) before; summed = summed_none (amplitudes l.z l.theta) }

-- a place more
abbrev pub added : Sum → ℤ → ℕ → Sum
added s z theta = record { sum = s.sum + counted (amplitude z theta) * counted (amplitude z theta); uncut = s.uncut && is_uncut (amplitude z theta) }

module _ {l : Lists} {before now : List (List Float)} {i : ℕ} {s : Sum} (r : Fillable l (length before)) (f : Filled l before i now s) where
  long : length (readings_of l) ≡ length before
  long = pairs_length l.y l.xi l.z l.theta (length before) r.long.y_long r.long.xi_long r.long.z_long r.long.theta_long

  sums_long : length (amplitudes l.z l.theta) ≡ length before
  sums_long = amplitudes_length l.z l.theta (r.long.theta_long ∙ sym r.long.z_long) ∙ r.long.z_long

  pub filled_small : i < length before → s.sum ≤ sum_limit
  filled_small h = summed_small f.summed (omega (arith, sums_long, r.long.few)) (omega (arith, sums_long))

  pub filled_next : i < length before → (x : Reading) (t : Sum) → x ≡ reading_of (get_or l.y i (pos 0)) (get_or l.xi i 0) (get_or l.z i (pos 0)) (get_or l.theta i 0) → t ≡ added s (get_or l.z i (pos 0)) (get_or l.theta i 0) →
      Filled l before (i + 1) (set now i (pair_of x)) t
  filled_next h x t e g =
      let y_in : i < length l.y = omega (arith, r.long.y_long) in
      let xi_in : i < length l.xi = omega (arith, r.long.xi_long) in
      let z_in : i < length l.z = omega (arith, r.long.z_long) in
      let theta_in : i < length l.theta = omega (arith, r.long.theta_long) in
      let a = amplitude (get_or l.z i (pos 0)) (get_or l.theta i 0) in
      record {
        written = written_next f.written [] (pair_of x) (omega (arith, long)) h (ap pair_of e ∙ sym (pairs_at l.y l.xi l.z l.theta i [] y_in xi_in z_in theta_in));
        summed = rw g (summed_next f.summed a (omega (arith, sums_long)) (sym (amplitudes_at l.z l.theta i z_in theta_in)) refl);
      }

  pub filled_all : length before ≤ i → (now ≡ readings_of l) × (s ≡ sum_of l.z l.theta)
  filled_all h =
      let t = summed_all f.summed (omega (arith, sums_long)) in
      (written_all f.written long h, ap₂ (λ (sum : ℕ) (uncut : Bool). record { sum = sum; uncut = uncut }) t.0 t.1)

-- ---- the power

pub power_chosen : (s : Sum) (n : ℕ) {b : Bool} → s.uncut ≡ b → power_from s n ≡ cond b (Mean (quotient s.sum n)) (Floor (quotient s.sum n))
power_chosen s n e = ap (λ (b : Bool). cond b (Mean (quotient s.sum n)) (Floor (quotient s.sum n))) e

module _ (Z : List ℤ) (θ : List ℕ) (n : ℕ) (e : length (amplitudes Z θ) ≡ n) where
  pub power_from_lem : power_from (sum_of Z θ) n ≡ power_of (amplitudes Z θ)
  unfolding power_of
  power_from_lem = ap (power_from (sum_of Z θ)) (sym e)

  pub power_is : {b : Bool} → all is_uncut (amplitudes Z θ) ≡ b → let q = quotient (squares (amplitudes Z θ)) n in power_of (amplitudes Z θ) ≡ cond b (Mean q) (Floor q)
  power_is f = sym power_from_lem ∙ power_chosen (sum_of Z θ) n f
