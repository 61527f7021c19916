-- The steps under negation: what is odd in the weights and the samples, and what doesn't see their signs.
use mathlib.Core.Path.{◌≡◌, refl, sym, ap, ap₂, ◌∙◌}
use mathlib.Core.List.{List, [], ◌∷◌}
use Prim.Native.Nat.{ℕ}
use lib.Dec.{ltb}
use lib.ListN.{length, take, length-map}
use lib.IntN.{ℤ, neg_ℤ, nat_abs, ◌+ℤ◌, ◌*ℤ◌, neg_ℤ-+ℤ}
use Rattle.laws.specs.Integers.{abs_neg}
use Rattle.laws.specs.Negated.{negated, *ℤ_neg, map_odd, map_even, all_even, negated_take}
use Rattle.numbers.specs.Cut.{cut, raise}
use Rattle.numbers.proofs.CutLaws.{cut_neg, raise_neg}
use Rattle.steps.specs.Limits.{update_shift}
use Rattle.steps.specs.Fir.{adapted, adapt, is_below, all_below, halved, doubled, push, magnitudes}

-- step 6
adapted_neg : (K w a : ℤ) → adapted K (neg_ℤ w) (neg_ℤ a) ≡ neg_ℤ (adapted K w a)
adapted_neg K w a = ap (λ (x : ℤ). neg_ℤ w +ℤ x) (ap (λ (x : ℤ). cut x update_shift) (*ℤ_neg K a) ∙ cut_neg (K *ℤ a) update_shift) ∙ sym (neg_ℤ-+ℤ w (cut (K *ℤ a) update_shift))

pub adapt_neg : (K : ℤ) (w a : List ℤ) → adapt K (negated w) (negated a) ≡ negated (adapt K w a)
unfolding adapt
adapt_neg K [] a = refl
adapt_neg K (w ∷ ws) [] = refl
adapt_neg K (w ∷ ws) (a ∷ b) = ap₂ ◌∷◌ (adapted_neg K w a) (adapt_neg K ws b)

-- step 7
pub below_neg : (limit : ℕ) (w : List ℤ) → all_below limit (negated w) ≡ all_below limit w
below_neg limit w = all_even (is_below limit) (λ x. ap (λ (n : ℕ). ltb n limit) (abs_neg x)) w

pub halved_neg : (w : List ℤ) → halved (negated w) ≡ negated (halved w)
halved_neg w = map_odd (λ (x : ℤ). cut x 1) (λ x. cut_neg x 1) w

pub doubled_neg : (w : List ℤ) → doubled (negated w) ≡ negated (doubled w)
doubled_neg w = map_odd (λ (x : ℤ). raise x 1) (λ x. raise_neg x 1) w

-- the window and the largest magnitude
pub push_neg : (x : ℤ) (l : List ℤ) → push (neg_ℤ x) (negated l) ≡ negated (push x l)
push_neg x l = ap (λ (n : ℕ). take n (negated (x ∷ l))) (length-map l neg_ℤ) ∙ negated_take (length l) (x ∷ l)

pub magnitudes_neg : (l : List ℤ) → magnitudes (negated l) ≡ magnitudes l
magnitudes_neg l = map_even nat_abs abs_neg l
