-- Laws of the symbols' largest bit length, by the delay of one that has it.
use mathlib.Core.Path.{◌≡◌, refl, sym, ap}
use mathlib.Core.Bool.{Bool, true, false, cond}
use mathlib.Core.List.{List, ◌∷◌}
use Prim.Native.Nat.{ℕ, ◌+◌, ◌*◌, ◌/◌, ◌^◌, ◌≤◌, ◌<◌}
use native.Mathlib.Omega.{arith}
use native.Mathlib.Nat.{div-add-mod', mod-lt, div-eq_of_lt, lt_of_not-le}
use native.Mathlib.Numerals.{add-one}
use lib.Dec.{ltb}
use borrow.Author.Tests.{ltb-true, lt-ltb, le-ltb}
use lib.ListN.{length, take, length-take}
use lib.Seq.{get_or-take}
use lib.IntN.{ℤ, pos, nat_abs}
use Rattle.laws.specs.Powers.{positive}
use Rattle.laws.specs.Sums.{Each, each_weaken}
use Rattle.numbers.specs.BitLength.{bit_length}
use Rattle.numbers.proofs.BitLengthLaws.{bit_length_le, bit_length_lt, bit_length_mono}
use Rattle.steps.specs.Settings.{is_entry}
use Rattle.steps.specs.Fir.{largest_bits, largest, magnitudes}
use Rattle.steps.proofs.LargestLaws.{largest_magnitude, largest_bits_is, magnitude_at}
use Rattle.steps.proofs.SymbolLaws.{entry_below}
use Rattle.filter.specs.Calls.{LargestBitsAt, next_delay, SymbolBounds}

-- a symbol of bit length r + 1 has the largest
pub reached : {r delay : ℕ} {l : List ℤ} → SymbolBounds r delay l → delay < length l → r + 1 ≡ largest_bits l
reached {r} {delay} {l} p h =
    omega (
      arith,
      largest_bits_is l,
      bit_length_le (largest (magnitudes l)) (r + 1) (largest_magnitude (λ (n : ℕ). n < 2 ^ (r + 1)) (positive (r + 1)) l below),
      bit_length_mono (magnitude_at l delay),
      p.largest_bits_at h,
    )
  where
    below : Each (λ (x : ℤ). nat_abs x < 2 ^ (r + 1)) l
    below = each_weaken (λ (x : ℤ). is_entry r x ≡ true) (λ (x : ℤ). nat_abs x < 2 ^ (r + 1)) (entry_below r) l p.symbols_are

-- the digits of a number above the first r: none where its bit length is at most r
pub digits_none : (n r : ℕ) → n / 2 ^ r ≡ 0 → bit_length n ≤ r
digits_none n r e = bit_length_le n r (omega (arith, div-add-mod' n (2 ^ r), mod-lt n (positive r), ap (λ (m : ℕ). m * 2 ^ r) e))

pub digits_some : (n r : ℕ) → (n / 2 ^ r ≡ 0 → ⊥) → r < bit_length n
digits_some n r h = lt_of_not-le (λ l. h (div-eq_of_lt (bit_length_lt n r l)))

-- ---- one more symbol before them

pub delay_more : {n r s : ℕ} (delay : ℕ) (v : ℤ) → n ≡ nat_abs v → s ≡ r → n / 2 ^ s ≡ 0 → delay + 1 ≡ next_delay r delay v
unfolding next_delay
delay_more {n} {r} {s} delay v e h d = rw (sym e) (simp (le-ltb r (bit_length n) (omega (arith, digits_none n s d))))

pub delay_none : {n r s : ℕ} (delay : ℕ) (v : ℤ) → n ≡ nat_abs v → s ≡ r → (n / 2 ^ s ≡ 0 → ⊥) → 0 ≡ next_delay r delay v
unfolding next_delay
delay_none {n} {r} {s} delay v e h d = rw (sym e) (simp (lt-ltb r (bit_length n) (omega (arith, digits_some n s d))))

pub next_delay_most : (r delay : ℕ) (v : ℤ) → next_delay r delay v ≤ delay + 1
unfolding next_delay
next_delay_most r delay v = go (ltb r (bit_length (nat_abs v)))
  where
    go : (b : Bool) → cond b 0 (delay + 1) ≤ delay + 1
    go true = omega arith
    go false = omega arith

pub next_largest_bits_at : (r delay : ℕ) (v : ℤ) (l : List ℤ) → LargestBitsAt r delay l → LargestBitsAt r (next_delay r delay v) (v ∷ l)
unfolding next_delay
next_largest_bits_at r delay v l p = go (ltb r (bit_length (nat_abs v))) refl
  where
    go : (b : Bool) → ltb r (bit_length (nat_abs v)) ≡ b → LargestBitsAt r (cond b 0 (delay + 1)) (v ∷ l)
    go true e = λ h. ltb-true r (bit_length (nat_abs v)) e
    go false e = rw (add-one delay) (λ h. p (omega arith))

-- the first of them
pub largest_bits_at_take : (r delay q : ℕ) (l : List ℤ) → LargestBitsAt r delay l → LargestBitsAt r delay (take q l)
largest_bits_at_take r delay q l p h = rw (get_or-take q l delay (pos 0) (omega (arith, length-take q l))) (p (omega (arith, length-take q l)))
