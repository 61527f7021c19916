-- Tests of every element of a list, and a list with each element mapped.
use Rattle.std.specs.Prelude.{◌≡◌, refl, Bool, true, false, ◌&&◌, List, [], ◌∷◌, map, ℕ, zero, suc, ◌≤◌, ◌<◌, T, length, get_or, drop}
use Rattle.std.proofs.Common.{sym, ap, subst, le_of_suc-le-suc, not-suc-le-zero, drop_of_length-le}

pub and_left : (a b : Bool) → (a && b) ≡ true → a ≡ true
and_left true b e = refl
and_left false b e = e

pub and_right : (a b : Bool) → (a && b) ≡ true → b ≡ true
and_right true b e = e
and_right false b e = absurd (subst T (sym e) tt)

-- ---- a list with each element mapped

-- inside the list any default will do
pub map_at {ℓ ℓ'} : {A : Type ℓ} {B : Type ℓ'} (f : A → B) (l : List A) (i : ℕ) (d : A) (e : B) → i < length l → get_or (map f l) i e ≡ f (get_or l i d)
map_at f [] i d e h = absurd (not-suc-le-zero h)
map_at f (x ∷ l) zero d e h = refl
map_at f (x ∷ l) (suc i) d e h = map_at f l i d e (le_of_suc-le-suc h)

-- ---- a test of every element

module _ {ℓ} {A : Type ℓ} (p : A → Bool) where
  abbrev pub all : List A → Bool
  all [] = true
  all (x ∷ xs) = p x && all xs

  pub all_end : (xs : List A) (i : ℕ) → length xs ≤ i → all (drop i xs) ≡ true
  all_end xs i h = ap all (drop_of_length-le xs h)

  pub all_at : (xs : List A) (i : ℕ) (d : A) → all xs ≡ true → i < length xs → p (get_or xs i d) ≡ true
  all_at [] i d e h = absurd (not-suc-le-zero h)
  all_at (x ∷ xs) zero d e h = and_left (p x) (all xs) e
  all_at (x ∷ xs) (suc i) d e h = all_at xs i d (and_right (p x) (all xs) e) (le_of_suc-le-suc h)
