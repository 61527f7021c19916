-- The slots that a loop fills with words.
use mathlib.Core.Path.{◌≡◌, sym, ap, ◌∙◌}
use mathlib.Core.List.{List, [], ◌∷◌, ◌++◌}
use Prim.Native.Nat.{ℕ, zero, suc, ◌+◌, ◌*◌, ◌-◌, ◌≤◌, ◌<◌}
use native.Mathlib.Omega.{arith}
use lib.ListN.{length, set, replicate, length-replicate}
use lib.IntN.{ℤ, pos}
use mir.Syntax.{Width}
use mir.Val.{to_z}
use Rattle.laws.specs.Loops.{overlay, Written, written_none, written_next}
use Rattle.words.specs.Words.{number_at, width, words_of}
use Rattle.words.proofs.ByteLaws.{words_count, word_at}
use Rattle.steps.specs.Limits.{slots}
use Rattle.state.specs.State.{padded}

-- ---- the slots

overlay_zeros : (i k m : ℕ) (new : List ℤ) → length new ≤ i → k ≡ length new + m → overlay i new (replicate k (pos 0)) ≡ new ++ replicate m (pos 0)
overlay_zeros zero k m [] h e = let f : k ≡ m = omega (arith, e) in ap (λ (j : ℕ). replicate j (pos 0)) f
overlay_zeros (suc i) k m [] h e = let f : k ≡ m = omega (arith, e) in ap (λ (j : ℕ). replicate j (pos 0)) f
overlay_zeros zero k m (x ∷ new) h e = absurd (omega arith)
overlay_zeros (suc i) zero m (x ∷ new) h e = absurd (omega arith)
overlay_zeros (suc i) (suc k) m (x ∷ new) h e = ap (λ (r : List ℤ). x ∷ r) (overlay_zeros i k m new (omega arith) (omega arith))

-- the first i words of l are at their slots
abbrev pub Worded : Width → ℕ → List ℕ → ℕ → List ℤ → Type 0
Worded w n l i out = Written (words_of w n l) (replicate slots (pos 0)) i out

module _ (w : Width) (n : ℕ) (l : List ℕ) (few : n ≤ slots) where
  pub worded_none : Worded w n l 0 (replicate slots (pos 0))
  worded_none = written_none (words_of w n l) (replicate slots (pos 0))

  pub worded_next : (i : ℕ) (out : List ℤ) (x : ℤ) → i < n → Worded w n l i out → x ≡ to_z w (number_at (width w) l (width w * i)) → Worded w n l (i + 1) (set out i x)
  worded_next i out x h s f = written_next s (pos 0) x (omega (arith, words_count w n l)) (omega (arith, length-replicate slots (pos 0))) (f ∙ sym (word_at w n i l h))

  pub worded_all : (i : ℕ) (out : List ℤ) → n ≤ i → Worded w n l i out → out ≡ padded (words_of w n l)
  worded_all i out h s = s.is ∙ overlay_zeros i slots (slots - length (words_of w n l)) (words_of w n l) (omega (arith, words_count w n l)) (omega (arith, words_count w n l))
