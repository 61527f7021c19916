-- Laws of the largest number of a list, and of the largest bit length.
use mathlib.Core.Path.{◌≡◌, refl, sym, ap, ap₂, ◌∙◌, subst}
use mathlib.Core.Bool.{Bool, true, false, ◌&&◌}
use mathlib.Core.List.{List, [], ◌∷◌, map}
use Prim.Native.Nat.{ℕ, zero, suc, ◌+◌, ◌^◌, ◌≤◌, ◌<◌, max}
use native.Mathlib.Omega.{arith, max_cases}
use native.Mathlib.Nat.{le_trans, max-eq_left, max-eq_right}
use native.Mathlib.Numerals.{add-one}
use lib.Dec.{ltb}
use lib.IntN.{ℤ, pos, nat_abs}
use lib.Bits.{bit_or, and_le_l, and_le_r, or_lt, or_add_and, or_zero_r}
use lib.ListN.{length, get_or, take, length-map, get_or-map}
use lib.Seq.{take_all}
use Rattle.std.specs.Prelude.{fold}
use borrow.Author.Tests.{lt-ltb, le-ltb, ltb-true, ltb-false}
use Rattle.laws.specs.Machine.{or_assoc}
use Rattle.laws.specs.Powers.{positive}
use Rattle.laws.specs.Sums.{Each, each_map, each_of, each_weaken}
use Rattle.laws.specs.Tests.{each_tested, tested_each}
use Rattle.numbers.specs.BitLength.{bit_length}
use Rattle.numbers.proofs.BitLengthLaws.{bit_length_zero, bit_length_mono, bit_length_le, bit_length_lt}
use Rattle.steps.specs.Fir.{is_below, all_below, magnitudes, largest, largest_bits}
use Rattle.steps.specs.Sound.{or_all}

-- ---- every element and the largest

-- what holds of 0 and of each element holds of the largest
largest_has : (P : ℕ → Type 0) → P 0 → (ns : List ℕ) → Each P ns → P (largest ns)
unfolding largest
largest_has P z [] h = z
largest_has P z (n ∷ ns) h =
    max_cases n (largest ns) (P (max n (largest ns))) (λ l e. subst P (sym e) (largest_has P z ns h.1)) (λ l e. subst P (sym e) h.0)

pub largest_magnitude : (P : ℕ → Type 0) → P 0 → (l : List ℤ) → Each (λ (x : ℤ). P (nat_abs x)) l → P (largest (magnitudes l))
largest_magnitude P z l h = largest_has P z (magnitudes l) (each_map (λ (x : ℤ). P (nat_abs x)) P nat_abs (λ x k. k) l h)

-- no element is larger
largest_at : (ns : List ℕ) (i : ℕ) → get_or ns i 0 ≤ largest ns
unfolding largest
largest_at [] i = omega arith
largest_at (n ∷ ns) zero = omega arith
largest_at (n ∷ ns) (suc i) = omega (arith, largest_at ns i)

pub magnitude_at : (l : List ℤ) (i : ℕ) → nat_abs (get_or l i (pos 0)) ≤ largest (magnitudes l)
magnitude_at l i = rw (sym (get_or-map nat_abs l i (pos 0))) (largest_at (magnitudes l) i)

pub each_magnitude : (l : List ℤ) → Each (λ (x : ℤ). nat_abs x ≤ largest (magnitudes l)) l
each_magnitude l = each_of (λ (x : ℤ). nat_abs x ≤ largest (magnitudes l)) (pos 0) l (λ i h. magnitude_at l i)

-- ---- the bit length

max_bit_length : (m n : ℕ) → max (bit_length m) (bit_length n) ≡ bit_length (max m n)
max_bit_length m n =
    max_cases m n (max (bit_length m) (bit_length n) ≡ bit_length (max m n)) (λ l e. max-eq_right (bit_length_mono l) ∙ ap bit_length (sym e))
    (λ l e. max-eq_left (bit_length_mono l) ∙ ap bit_length (sym e))

largest_bit_length : (ns : List ℕ) → largest (map bit_length ns) ≡ bit_length (largest ns)
unfolding largest
largest_bit_length [] = sym bit_length_zero
largest_bit_length (n ∷ ns) = ap (max (bit_length n)) (largest_bit_length ns) ∙ max_bit_length n (largest ns)

-- the largest bit length is that of the largest number
pub largest_bits_is : (l : List ℤ) → largest_bits l ≡ bit_length (largest (magnitudes l))
unfolding largest_bits
largest_bits_is l = largest_bit_length (magnitudes l)

pub largest_bits_above : (l : List ℤ) → Each (λ (x : ℤ). nat_abs x < 2 ^ largest_bits l) l
largest_bits_above l =
    each_weaken (λ (x : ℤ). nat_abs x ≤ largest (magnitudes l)) (λ (x : ℤ). nat_abs x < 2 ^ largest_bits l)
    (λ x h. bit_length_lt (nat_abs x) (largest_bits l) (rw largest_bits_is (bit_length_mono h))) l (each_magnitude l)

-- ---- the bits of several numbers together

pub or_left : (m n : ℕ) → m ≤ bit_or m n
or_left m n = omega (arith, or_add_and m n, and_le_r m n)

pub or_right : (m n : ℕ) → n ≤ bit_or m n
or_right m n = omega (arith, or_add_and m n, and_le_l m n)

pub or_bit_length : (m n : ℕ) → bit_length (bit_or m n) ≡ max (bit_length m) (bit_length n)
or_bit_length m n =
    omega (
      arith,
      bit_length_le (bit_or m n) most (or_lt most m n (bit_length_lt m most (omega arith)) (bit_length_lt n most (omega arith))),
      bit_length_mono (or_left m n),
      bit_length_mono (or_right m n),
    )
  where
    most : ℕ
    most = max (bit_length m) (bit_length n)

pub or_all_length : (ns : List ℕ) → bit_length (or_all ns) ≡ largest (map bit_length ns)
unfolding or_all largest
or_all_length [] = bit_length_zero
or_all_length (n ∷ ns) = or_bit_length n (or_all ns) ∙ ap (max (bit_length n)) (or_all_length ns)

-- as many as the largest has
pub or_all_largest_bits : (l : List ℤ) → bit_length (or_all (magnitudes l)) ≡ largest_bits l
unfolding largest_bits
or_all_largest_bits l = or_all_length (magnitudes l)

-- ---- in a loop from the front

pub or_all_none : or_all [] ≡ 0
unfolding or_all
or_all_none = refl

or_all_take : (ns : List ℕ) (i : ℕ) → bit_or (or_all (take i ns)) (get_or ns i 0) ≡ or_all (take (suc i) ns)
unfolding or_all
or_all_take [] zero = refl
or_all_take [] (suc i) = refl
or_all_take (n ∷ ns) zero = sym (or_zero_r n)
or_all_take (n ∷ ns) (suc i) = or_assoc n (or_all (take i ns)) (get_or ns i 0) ∙ ap (bit_or n) (or_all_take ns i)

-- one number more
pub or_all_next : (ns : List ℕ) (i m n : ℕ) → m ≡ or_all (take i ns) → n ≡ get_or ns i 0 → bit_or m n ≡ or_all (take (i + 1) ns)
or_all_next ns i m n e f = ap₂ bit_or e f ∙ or_all_take ns i ∙ ap (λ (j : ℕ). or_all (take j ns)) (sym (add-one i))

-- all of them
pub or_all_all : (ns : List ℕ) (i m : ℕ) → length ns ≤ i → m ≡ or_all (take i ns) → m ≡ or_all ns
or_all_all ns i m h e = e ∙ ap or_all (take_all i ns h)

-- the bits of the first i magnitudes together
abbrev pub Seen : List ℤ → ℕ → ℕ → Type 0
Seen l i seen = seen ≡ or_all (take i (magnitudes l))

pub seen_none : (l : List ℤ) → Seen l 0 0
seen_none l = sym or_all_none

pub seen_next : (l : List ℤ) (i seen n : ℕ) → Seen l i seen → n ≡ nat_abs (get_or l i (pos 0)) → Seen l (i + 1) (bit_or seen n)
seen_next l i seen n e f = or_all_next (magnitudes l) i seen n e (f ∙ sym (get_or-map nat_abs l i (pos 0)))

pub seen_all : (l : List ℤ) (i seen : ℕ) → Seen l i seen → length l ≤ i → seen ≡ or_all (magnitudes l)
seen_all l i seen e h = or_all_all (magnitudes l) i seen (rw length-map h) e

-- ---- in a fold

or_folded : (m : ℕ) (l : List ℤ) → fold (λ (seen : ℕ) (x : ℤ). bit_or seen (nat_abs x)) m l ≡ bit_or m (or_all (magnitudes l))
unfolding or_all
or_folded m [] = sym (or_zero_r m)
or_folded m (x ∷ l) = or_folded (bit_or m (nat_abs x)) l ∙ or_assoc m (nat_abs x) (or_all (magnitudes l))

pub folded_bits : (l : List ℤ) (n : ℕ) → n ≡ fold (λ (seen : ℕ) (x : ℤ). bit_or seen (nat_abs x)) 0 l → n ≡ or_all (magnitudes l)
folded_bits l n e = e ∙ or_folded 0 l

-- ---- below a limit

-- the test of every magnitude, as facts, and back
pub all_below_lem : (limit : ℕ) (w : List ℤ) → all_below limit w ≡ true → Each (λ (x : ℤ). nat_abs x < limit) w
all_below_lem limit w e = each_tested (is_below limit) (λ x. nat_abs x < limit) (λ x h. ltb-true (nat_abs x) limit h) w e

pub below_all : (limit : ℕ) (w : List ℤ) → Each (λ (x : ℤ). nat_abs x < limit) w → all_below limit w ≡ true
below_all limit w h = tested_each (is_below limit) (λ x. nat_abs x < limit) (λ x l. lt-ltb (nat_abs x) limit l) w h

-- ---- below a power of two

or_below : (k m n : ℕ) (a b : Bool) → ltb m (2 ^ k) ≡ a → ltb n (2 ^ k) ≡ b → ltb (bit_or m n) (2 ^ k) ≡ (a && b)
or_below k m n true true e f = lt-ltb (bit_or m n) (2 ^ k) (or_lt k m n (ltb-true m (2 ^ k) e) (ltb-true n (2 ^ k) f))
or_below k m n true false e f = le-ltb (bit_or m n) (2 ^ k) (le_trans (ltb-false n (2 ^ k) f) (or_right m n))
or_below k m n false b e f = le-ltb (bit_or m n) (2 ^ k) (le_trans (ltb-false m (2 ^ k) e) (or_left m n))

-- no weight has reached a limit 2^k where the bits together have not, in one filter
pub or_all_below : (k : ℕ) (w : List ℤ) → ltb (or_all (magnitudes w)) (2 ^ k) ≡ all_below (2 ^ k) w
unfolding or_all
or_all_below k [] = lt-ltb 0 (2 ^ k) (positive k)
or_all_below k (x ∷ w) = or_below k (nat_abs x) (or_all (magnitudes w)) (is_below (2 ^ k) x) (all_below (2 ^ k) w) refl (or_all_below k w)

-- and on both
pub both_below : (k : ℕ) (w u : List ℤ) → ltb (bit_or (or_all (magnitudes w)) (or_all (magnitudes u))) (2 ^ k) ≡ (all_below (2 ^ k) w && all_below (2 ^ k) u)
both_below k w u = or_below k (or_all (magnitudes w)) (or_all (magnitudes u)) (all_below (2 ^ k) w) (all_below (2 ^ k) u) (or_all_below k w) (or_all_below k u)
