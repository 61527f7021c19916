-- Lists that a loop has gone through in part.
use Rattle.std.specs.Prelude.{◌≡◌, refl, Bool, true, ◌&&◌, List, [], ◌∷◌, ℕ, zero, suc, ◌+◌, ◌≤◌, ◌<◌, length, get_or, take, drop, set}
use Rattle.std.proofs.Common.{sym, ap, ap₂, ◌∙◌, arith, le_of_suc-le-suc, not-suc-le-zero, le_refl, add-one, length-set, drop-cons, take_all}
use Rattle.std.proofs.Math.Bool.{and-true, and_assoc}
use Rattle.laws.specs.Lists.{all, all_end}

-- ---- the first i elements replaced by those of another list

module _ {ℓ} {A : Type ℓ} where
  abbrev pub overlay : ℕ → List A → List A → List A
  overlay zero new old = old
  overlay (suc i) [] old = old
  overlay (suc i) (x ∷ new) [] = []
  overlay (suc i) (x ∷ new) (y ∷ old) = x ∷ overlay i new old

  -- one store more
  overlay_next : (i : ℕ) (new old : List A) (d : A) → i < length new → i < length old → set (overlay i new old) i (get_or new i d) ≡ overlay (suc i) new old
  overlay_next zero [] old d h k = absurd (not-suc-le-zero h)
  overlay_next zero (x ∷ new) [] d h k = absurd (not-suc-le-zero k)
  overlay_next zero (x ∷ new) (y ∷ old) d h k = refl
  overlay_next (suc i) [] old d h k = absurd (not-suc-le-zero h)
  overlay_next (suc i) (x ∷ new) [] d h k = absurd (not-suc-le-zero k)
  overlay_next (suc i) (x ∷ new) (y ∷ old) d h k = ap (λ l. x ∷ l) (overlay_next i new old d (le_of_suc-le-suc h) (le_of_suc-le-suc k))

  -- what lies at i or later is as it was
  overlay_later : (i j : ℕ) (new old : List A) (d : A) → i ≤ j → get_or (overlay i new old) j d ≡ get_or old j d
  overlay_later zero j new old d h = refl
  overlay_later (suc i) j [] old d h = refl
  overlay_later (suc i) j (x ∷ new) [] d h = refl
  overlay_later (suc i) zero (x ∷ new) (y ∷ old) d h = absurd (not-suc-le-zero h)
  overlay_later (suc i) (suc j) (x ∷ new) (y ∷ old) d h = overlay_later i j new old d (le_of_suc-le-suc h)

  -- all of them
  front : (i : ℕ) (new old : List A) → length new ≤ i → length new ≤ length old → take (length new) (overlay i new old) ≡ new
  front i [] old h k = refl
  front zero (x ∷ new) old h k = absurd (not-suc-le-zero h)
  front (suc i) (x ∷ new) [] h k = absurd (not-suc-le-zero k)
  front (suc i) (x ∷ new) (y ∷ old) h k = ap (λ l. x ∷ l) (front i new old (le_of_suc-le-suc h) (le_of_suc-le-suc k))

-- ---- a list that a loop writes from the front

module _ {ℓ} {A : Type ℓ} where
  -- the first i elements are those of the new list, the others are still the old ones
  pub record Written (new old : List A) (i : ℕ) (now : List A) : Type ℓ where
    pub long : length now ≡ length old
    pub is : now ≡ overlay i new old

  pub written_none : (new old : List A) → Written new old 0 old
  written_none new old = record { long = refl; is = refl }

  module _ {new old now : List A} {i : ℕ} (w : Written new old i now) where
    -- the element that is next is as it was
    pub written_read : (d : A) → get_or now i d ≡ get_or old i d
    written_read d = ap (λ l. get_or l i d) w.is ∙ overlay_later i i new old d (le_refl i)

    -- one store more, of the element that belongs there
    pub written_next : (d x : A) → i < length new → i < length old → x ≡ get_or new i d → Written new old (i + 1) (set now i x)
    written_next d x h k e = record {
      long = length-set now i x ∙ w.long;
      is = ap₂ (λ l y. set l i y) w.is e ∙ overlay_next i new old d h k ∙ ap (λ j. overlay j new old) (sym (add-one i));
    }

    -- all of the new list is written
    pub written_front : (n : ℕ) → n ≡ length new → n ≤ i → n ≤ length old → take n now ≡ new
    written_front n e h k = ap₂ take e w.is ∙ front i new old (omega arith) (omega arith)

    pub written_all : length new ≡ length old → length old ≤ i → now ≡ new
    written_all e h = sym (take_all (length new) now (omega (arith, w.long))) ∙ written_front (length new) refl (omega arith) (omega arith)

-- ---- as many elements replaced as there are

module _ {ℓ} {A : Type ℓ} where
  pub overlay_length : (i : ℕ) (new old : List A) → length (overlay i new old) ≡ length old
  overlay_length zero new old = refl
  overlay_length (suc i) [] old = refl
  overlay_length (suc i) (x ∷ new) [] = refl
  overlay_length (suc i) (x ∷ new) (y ∷ old) = ap suc (overlay_length i new old)

  pub overlay_all : (n : ℕ) (new old : List A) → length new ≡ n → length old ≡ n → overlay n new old ≡ new
  overlay_all n new old h k = written_all {old = old} {i = n} (record { long = overlay_length n new old; is = refl }) (omega arith) (omega arith)

-- ---- a test of every element, in a loop

-- what was found of the first i elements, and what is left
pub record Tested {ℓ} {A : Type ℓ} (p : A → Bool) (xs : List A) (found : Bool) (i : ℕ) : Type 0 where
  pub is : all p xs ≡ (found && all p (drop i xs))

pub tested_none {ℓ} : {A : Type ℓ} (p : A → Bool) (xs : List A) → Tested p xs true 0
tested_none p xs = record { is = refl }

module _ {ℓ} {A : Type ℓ} {p : A → Bool} {xs : List A} {found : Bool} {i : ℕ} (t : Tested p xs found i) where
  -- one element more
  pub tested_next : (d : A) {one : Bool} → i < length xs → one ≡ p (get_or xs i d) → Tested p xs (found && one) (i + 1)
  tested_next d h e = record {
    is =
        t.is ∙ ap (λ l. found && all p l) (drop-cons xs i d h)
        ∙ sym (and_assoc found (p (get_or xs i d)) (all p (drop (suc i) xs)))
        ∙ ap₂ (λ b j. (found && b) && all p (drop j xs)) (sym e) (sym (add-one i));
  }

  pub tested_all : length xs ≤ i → found ≡ all p xs
  tested_all h = sym (t.is ∙ ap (λ b. found && b) (all_end p xs i h) ∙ and-true found)
