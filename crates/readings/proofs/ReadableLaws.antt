-- What can be read, and the answer where it can and where it can't.
use mathlib.Core.Path.{◌≡◌, refl, sym, ap, ◌∙◌}
use mathlib.Core.Bool.{Bool, true, false, cond, ◌&&◌, and-true, and-false}
use mathlib.Core.List.{List}
use Prim.Native.Nat.{ℕ, ◌^◌, ◌≤◌, ◌<◌}
use native.Mathlib.Omega.{arith}
use lib.ListN.{length}
use lib.IntN.{pos}
use lib.Ieee.{Float, fin}
use Rattle.std.specs.Prelude.{Ok, Err}
use Rattle.std.proofs.Common.{rules}
use borrow.Author.Tests.{leb-true, le-leb, eq-eqb}
use Rattle.laws.specs.Lists.{and_left, and_right, all}
use Rattle.laws.specs.Tests.{last_le, last_eq}
use Rattle.steps.specs.Limits.{block_limit}
use Rattle.steps.specs.Fir.{all_below}
use Rattle.readings.specs.Limits.{output_limit, error_limit}
use Rattle.readings.specs.Readings.{Lists, exponent_fits, lengths_readable, values_readable, readable, readings_of, amplitudes, is_uncut, squares, quotient, power_of}
use Rattle.readings.specs.Answers.{ReadAnswer, answer_of, output_of, number_of, floor_of, value_in, read_number, read_floor, read_value, Read}
use Rattle.readings.specs.Calls.{Long, Fillable, sum_of, power_from}
use Rattle.readings.proofs.ListLaws.{amplitudes_length, squares_bound, power_from_lem}

module _ (l : Lists) (n : ℕ) where
  pub readable_short : lengths_readable l n ≡ false → readable l n ≡ false
  unfolding readable
  readable_short e = ap (λ (b : Bool). b && values_readable l) e

  pub readable_long : lengths_readable l n ≡ true → readable l n ≡ values_readable l
  unfolding readable
  readable_long e = ap (λ (b : Bool). b && values_readable l) e

  pub lengths_say : lengths_readable l n ≡ true → Long l n
  lengths_say h =
      let t = last_eq _ (length l.theta) n h in
      let z = last_eq _ (length l.z) n t.0 in
      let x = last_eq _ (length l.xi) n z.0 in
      let y = last_eq _ (length l.y) n x.0 in
      let f = last_le _ n block_limit y.0 in
      record { some = leb-true 1 n f.0; few = f.1; y_long = y.1; xi_long = x.1; z_long = z.1; theta_long = t.1 }

-- the values in another order
pub reordered : (y z x t : Bool) → ((y && z) && (x && t)) ≡ (z && x && t && y)
reordered y false x t = ap (λ (b : Bool). b && (x && t)) (and-false y)
reordered true true true t = sym (and-true t)
reordered true true false t = refl
reordered false true x t = sym (and-false (x && t))

-- and tested in that order
pub readable_tests : (l : Lists) (n : ℕ) → lengths_readable l n ≡ true → readable l n ≡ ((all_below output_limit l.y && all_below error_limit l.z) && (all exponent_fits l.xi && all exponent_fits l.theta))
readable_tests l n e = readable_long l n e ∙ sym (reordered (all_below output_limit l.y) (all_below error_limit l.z) (all exponent_fits l.xi) (all exponent_fits l.theta))

-- every cause is absent
pub record Readable (l : Lists) (n : ℕ) : Type 0 where
  pub fill : Fillable l n
  pub z_small : all_below error_limit l.z ≡ true
  pub y_small : all_below output_limit l.y ≡ true

module _ {l : Lists} {n : ℕ} where
  pub readable_says : readable l n ≡ true → Readable l n
  unfolding readable
  readable_says h =
      let z = all_below error_limit l.z in
      let x = all exponent_fits l.xi in
      let t = all exponent_fits l.theta in
      let y = all_below output_limit l.y in
      let v = and_right (lengths_readable l n) (values_readable l) h in
      let w = and_left (z && x && t) y v in
      let u = and_left (z && x) t w in
      record {
        fill = record { long = lengths_say l n (and_left (lengths_readable l n) (values_readable l) h); xi_fit = and_right z x u; theta_fit = and_right (z && x) t w };
        z_small = and_left z x u;
        y_small = and_right (z && x && t) y v;
      }

  pub readable_of : Readable l n → readable l n ≡ true
  unfolding readable
  readable_of r =
      let f = r.fill in
      let n' = f.long in
      simp (le-leb 1 n n'.some, le-leb n block_limit n'.few, eq-eqb (length l.y) n n'.y_long, eq-eqb (length l.xi) n n'.xi_long, eq-eqb (length l.z) n n'.z_long, eq-eqb (length l.theta) n n'.theta_long, r.z_small, f.xi_fit, f.theta_fit, r.y_small)

-- ---- answers

pub number_given : (l : Lists) (n : ℕ) → readable l n ≡ true → number_of (answer_of l n) ≡ 0
unfolding answer_of
number_given l n e = rw e refl

module _ (a : List ℕ) where
  power_floor : floor_of (Ok (power_of a)) ≡ cond (all is_uncut a) 0 1
  unfolding power_of
  power_floor = search rules

  power_value : value_in (Ok (power_of a)) ≡ quotient (squares a) (length a)
  unfolding power_of
  power_value = search rules

module _ (l : Lists) where
  -- as many a as places
  pub amplitudes_long : (n : ℕ) → readable l n ≡ true → length (amplitudes l.z l.theta) ≡ n
  amplitudes_long n e = let f = (readable_says e).fill.long in amplitudes_length l.z l.theta (f.theta_long ∙ sym f.z_long) ∙ f.z_long

  -- the number and the values of an answer
  answer_values : (n : ℕ) → (number_of (answer_of l n) ≡ read_number l n) × (floor_of (answer_of l n) ≡ read_floor l n) × (value_in (answer_of l n) ≡ read_value l n)
  unfolding answer_of
  answer_values n = go (readable l n) refl
    where
      as' : List ℕ
      as' = amplitudes l.z l.theta

      go : (b : Bool) → readable l n ≡ b →
          (number_of (cond b (Ok (power_of as')) (Err (record {}))) ≡ cond b 0 11) × (floor_of (cond b (Ok (power_of as')) (Err (record {}))) ≡ cond b (cond (all is_uncut as') 0 1) 0)
          × (value_in (cond b (Ok (power_of as')) (Err (record {}))) ≡ cond b (quotient (squares as') n) (fin false 0 (pos 0)))
      go true e = (refl, power_floor as', power_value as' ∙ ap (quotient (squares as')) (amplitudes_long n e))
      go false e = (refl, refl, refl)

  -- so the contract is met by an answer and an output
  pub read : (before : List (List Float)) {a : ReadAnswer} {after : List (List Float)} → a ≡ answer_of l (length before) → after ≡ output_of l before → Read l before a after
  read before e o =
      let v = answer_values (length before) in
      record { answer = e; number = ap number_of e ∙ v.0; floor = ap floor_of e ∙ v.1; value = ap value_in e ∙ v.2; output = o }

  module _ (before : List (List Float)) where
    pub refused : readable l (length before) ≡ false → Read l before (Err (record {})) before
    unfolding answer_of output_of
    refused e =
        read before (sym (ap (λ (b : Bool). cond b (Ok (power_of (amplitudes l.z l.theta))) (Err (record {}))) e)) (sym (ap (λ (b : Bool). cond b (readings_of l) before) e))

    pub given : readable l (length before) ≡ true → Read l before (Ok (power_of (amplitudes l.z l.theta))) (readings_of l)
    unfolding answer_of output_of
    given e =
        read before (sym (ap (λ (b : Bool). cond b (Ok (power_of (amplitudes l.z l.theta))) (Err (record {}))) e)) (sym (ap (λ (b : Bool). cond b (readings_of l) before) e))

module _ (l : Lists) (n : ℕ) (is : readable l n ≡ true) where
  -- the sum of a² is exact as a float
  pub sum_fits : (squares (amplitudes l.z l.theta) < 2 ^ 53) × (1 ≤ n) × (n ≤ block_limit)
  sum_fits = let r = (readable_says is).fill.long in (omega (arith, squares_bound (amplitudes l.z l.theta), amplitudes_long l n is, r.few), r.some, r.few)

  pub power_given : power_from (sum_of l.z l.theta) n ≡ power_of (amplitudes l.z l.theta)
  power_given = power_from_lem l.z l.theta n (amplitudes_long l n is)
