-- A test of every element of a list that goes by its largest bit length.
use mathlib.Core.Path.{◌≡◌, refl, sym}
use mathlib.Core.Bool.{Bool, true, false}
use mathlib.Core.List.{List}
use Prim.Native.Nat.{ℕ, ◌^◌, ◌≤◌, ◌<◌}
use native.Mathlib.Omega.{arith}
use native.Mathlib.Nat.{lt_of_lt_of_le}
use lib.Dec.{leb}
use lib.IntN.{ℤ, nat_abs}
use borrow.Author.Tests.{leb-true, leb-false}
use Rattle.laws.specs.Lists.{all}
use Rattle.laws.specs.Powers.{positive, rises}
use Rattle.laws.specs.Tests.{refuted, each_tested, tested_each}
use Rattle.numbers.proofs.BitLengthLaws.{bit_length_le}
use Rattle.steps.specs.Fir.{largest_bits, largest, magnitudes}
use Rattle.steps.proofs.LargestLaws.{largest_magnitude, largest_bits_is, largest_bits_above}

-- a test that an element passes exactly where its magnitude is below 2^k
pub by_largest_bits : (p : ℤ → Bool) (k : ℕ) → ((z : ℤ) → p z ≡ true → nat_abs z < 2 ^ k) → ((z : ℤ) → nat_abs z < 2 ^ k → p z ≡ true) → (xs : List ℤ) → leb (largest_bits xs) k ≡ all p xs
by_largest_bits p k below passes xs = go (leb (largest_bits xs) k) refl
  where
    shorter : all p xs ≡ true → largest_bits xs ≤ k
    shorter t = rw largest_bits_is (bit_length_le (largest (magnitudes xs)) k (largest_magnitude (λ (n : ℕ). n < 2 ^ k) (positive k) xs (each_tested p _ below xs t)))

    go : (b : Bool) → leb (largest_bits xs) k ≡ b → b ≡ all p xs
    go true e = sym (tested_each p _ (λ z h. passes z (lt_of_lt_of_le h (rises (leb-true (largest_bits xs) k e)))) xs (largest_bits_above xs))
    go false e = refuted (all p xs) (λ t. omega (arith, leb-false (largest_bits xs) k e, shorter t))
