-- Zeros and stored samples are tested by the largest bit length.
use mathlib.Core.Path.{◌≡◌, refl, sym, ap, ◌∙◌, fun_ext}
use mathlib.Core.Bool.{Bool}
use mathlib.Core.List.{List}
use Prim.Native.Nat.{ℕ, zero, suc, ◌+◌, ◌*◌, ◌-◌, ◌^◌, ◌≤◌}
use native.Mathlib.Omega.{arith}
use native.Mathlib.Nat.{lt_of_lt_of_le}
use lib.Dec.{ltb, leb, eqb}
use lib.IntN.{ℤ, nat_abs}
use borrow.Author.Tests.{ltb-true, lt-ltb, le-ltb, lt-leb, eqb-true, eq-eqb, ne_eqb}
use Rattle.laws.specs.Lists.{all}
use Rattle.laws.specs.Powers.{positive, rises, lower, raise}
use Rattle.steps.specs.Limits.{data_unit}
use Rattle.steps.specs.Fir.{all_below, largest_bits}
use Rattle.steps.proofs.LargestBitsTests.{by_largest_bits}
use Rattle.state.specs.State.{is_zero, is_stored}

zero_largest_bits : (xs : List ℤ) → leb (largest_bits xs) 0 ≡ all is_zero xs
zero_largest_bits xs = by_largest_bits is_zero 0 (λ z e. omega (arith, eqb-true (nat_abs z) 0 e)) (λ z h. eq-eqb (nat_abs z) 0 (omega arith)) xs

pub zeros_pass : (xs : List ℤ) → eqb (largest_bits xs) 0 ≡ all is_zero xs
zeros_pass xs = none (largest_bits xs) ∙ zero_largest_bits xs
  where
    none : (n : ℕ) → eqb n 0 ≡ leb n 0
    none zero = refl
    none (suc n) = ne_eqb (suc n) 0 (λ e. omega arith) ∙ sym (lt-leb (suc n) 0 (omega arith))

-- weights that are all below 1 are zeros
pub below_one : (w : List ℤ) → all_below 1 w ≡ all is_zero w
below_one w = ap (λ (p : ℤ → Bool). all p w) (fun_ext (λ z. none (nat_abs z)))
  where
    none : (n : ℕ) → ltb n 1 ≡ eqb n 0
    none zero = refl
    none (suc n) = le-ltb (suc n) 1 (omega arith) ∙ sym (ne_eqb (suc n) 0 (λ e. omega arith))

-- |A|·2^(B+s) < 2^(data_unit + b) as a bound on |A|, or as A = 0 where B + s is no less than data_unit + b
module _ (s b B : ℕ) (xs : List ℤ) where
  pub stored_largest_bits : B + s ≤ data_unit + b → leb (largest_bits xs) (data_unit + b - (B + s)) ≡ all (is_stored s b B) xs
  stored_largest_bits h =
      let e : data_unit + b ≡ data_unit + b - (B + s) + (B + s) = omega arith in
      by_largest_bits (is_stored s b B) (data_unit + b - (B + s)) (λ z t. lower (nat_abs z) (data_unit + b) _ (B + s) e (ltb-true _ _ t)) (λ z k. lt-ltb _ _ (raise (nat_abs z) (data_unit + b) _ (B + s) e k)) xs

  pub stored_zero : data_unit + b ≤ B + s → all is_zero xs ≡ all (is_stored s b B) xs
  stored_zero h =
      sym (zero_largest_bits xs)
      ∙ by_largest_bits (is_stored s b B) 0 (λ z t. lower (nat_abs z) (B + s) 0 (B + s) (omega arith) (lt_of_lt_of_le (ltb-true _ _ t) (rises h)))
      (λ z k. let e : nat_abs z ≡ 0 = omega arith in lt-ltb (nat_abs z * 2 ^ (B + s)) (2 ^ (data_unit + b)) (omega (arith, ap (λ (n : ℕ). n * 2 ^ (B + s)) e, positive (data_unit + b)))) xs
