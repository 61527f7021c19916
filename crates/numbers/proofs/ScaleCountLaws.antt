-- Laws of the scale count: the rule, the bit length, and what follows for 2^S.
use mathlib.Core.Path.{◌≡◌, refl, sym, ap, ◌∙◌, subst}
use mathlib.Core.Bool.{Bool, true, false, cond}
use Prim.Native.Nat.{ℕ, zero, suc, ◌+◌, ◌*◌, ◌-◌, ◌^◌, ◌≤◌, ◌<◌}
use native.Mathlib.Omega.{arith}
use native.Mathlib.Nat.{le_antisymm, le_of_lt}
use native.Mathlib.Decide.{dec_le}
use lib.Dec.{T, leb}
use lib.Arith.{lt_of_le-ne}
use borrow.Author.Tests.{le-leb, leb-true}
use Rattle.laws.specs.Powers.{above}
use Rattle.numbers.specs.BitLength.{bit_length}
use Rattle.numbers.specs.ScaleCount.{first, scale_count}
use Rattle.numbers.proofs.BitLengthLaws.{bit_length_above, bit_length_least, bit_length_le}

-- ---- the first that passes a test

true_ne_false : true ≡ false → ⊥
true_ne_false e = subst T e tt

first_within : (test : ℕ → Bool) (d s : ℕ) → first test d s ≤ s + d
unfolding first
first_within test zero s = omega arith
first_within test (suc d) s = go (test s) (first_within test d (suc s))
  where
    go : (b : Bool) → first test d (suc s) ≤ suc s + d → cond b s (first test d (suc s)) ≤ s + suc d
    go true h = omega arith
    go false h = omega arith

first_passes : (test : ℕ → Bool) (d s t : ℕ) → s ≤ t → t ≤ s + d → test t ≡ true → (test (first test d s) ≡ true) × (first test d s ≤ t)
unfolding first
first_passes test zero s t h k e = (ap test (le_antisymm h (omega arith)) ∙ e, h)
first_passes test (suc d) s t h k e = go (test s) refl (λ l. first_passes test d (suc s) t l (omega arith) e)
  where
    later : test s ≡ false → s < t
    later f = lt_of_le-ne h (λ q. true_ne_false (sym e ∙ ap test (sym q) ∙ f))

    go : (b : Bool) → test s ≡ b → (s < t → (test (first test d (suc s)) ≡ true) × (first test d (suc s) ≤ t)) →
        (test (cond b s (first test d (suc s))) ≡ true) × (cond b s (first test d (suc s)) ≤ t)
    go true f rest = (f, h)
    go false f rest = rest (later f)

-- ---- the rule

-- 2^S ≥ 2k
pub scale_enough : (k : ℕ) → 2 * k ≤ 2 ^ scale_count k
unfolding scale_count
scale_enough k =
    leb-true _ _ (first_passes (λ s. leb (2 * k) (2 ^ s)) (2 * k) 0 (2 * k) (omega arith) (omega arith) (le-leb _ _ (le_of_lt (above (2 * k))))).0

-- and no smaller number has it
pub scale_least : (k s : ℕ) → 2 * k ≤ 2 ^ s → scale_count k ≤ s
unfolding scale_count
scale_least k s h = go (dec_le s (2 * k))
  where
    go : Dec (s ≤ 2 * k) → first (λ s. leb (2 * k) (2 ^ s)) (2 * k) 0 ≤ s
    go (yes l) = (first_passes (λ s. leb (2 * k) (2 ^ s)) (2 * k) 0 s (omega arith) (omega arith) (le-leb _ _ h)).1
    go (no l) = omega (arith, first_within (λ s. leb (2 * k) (2 ^ s)) (2 * k) 0)

-- ---- the bit length

-- S(k) is the bit length of 2k − 1
pub scale_bits : (k : ℕ) → 1 ≤ k → scale_count k ≡ bit_length (2 * k - 1)
scale_bits k p =
    le_antisymm (scale_least k (bit_length (2 * k - 1)) (omega (arith, bit_length_above (2 * k - 1)))) (bit_length_le (2 * k - 1) (scale_count k) (omega (arith, scale_enough k)))

-- so 2^S is below 4k
pub scale_below : (k : ℕ) → 1 ≤ k → 2 ^ scale_count k < 4 * k
scale_below k p = omega (arith, ap (λ (s : ℕ). 2 ^ s) (scale_bits k p), bit_length_least (2 * k - 1) (omega arith))
