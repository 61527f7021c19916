-- The sum of the products of two lists, and facts that hold of each element.
use Rattle.std.specs.Prelude.{◌≡◌, refl, List, [], ◌∷◌, ◌++◌, map, ℕ, zero, suc, ◌+◌, ◌*◌, ◌≤◌, ◌<◌, length, get_or, take, drop, ℤ, pos, nat_abs, ◌+ℤ◌, ◌*ℤ◌}
use Rattle.std.proofs.Common.{sym, ap, ap₂, ◌∙◌, arith, le_of_suc-le-suc, not-suc-le-zero, mul-le-mul, add-one, take_all}
use Rattle.std.proofs.Math.IntN.{zero-*ℤ, +ℤ_idl, +ℤ_idr, +ℤ_assoc}
use Rattle.laws.specs.Integers.{add-*ℤ, *ℤ_assoc, abs_mul, abs_add}

-- ---- a fact of each element

module _ {ℓ} {A : Type ℓ} (P : A → Type 0) where
  abbrev pub Each : List A → Type 0
  Each [] = Unit {0}
  Each (x ∷ xs) = P x × Each xs

  pub each_at : (xs : List A) (i : ℕ) (d : A) → Each xs → i < length xs → P (get_or xs i d)
  each_at [] i d h k = absurd (not-suc-le-zero k)
  each_at (x ∷ xs) zero d h k = h.0
  each_at (x ∷ xs) (suc i) d h k = each_at xs i d h.1 (le_of_suc-le-suc k)

  pub each_of : (d : A) (xs : List A) → ((i : ℕ) → i < length xs → P (get_or xs i d)) → Each xs
  each_of d [] h = tt
  each_of d (x ∷ xs) h = (h 0 (omega arith), each_of d xs (λ i k. h (suc i) (omega arith)))

  pub each_append : (xs ys : List A) → Each xs → Each ys → Each (xs ++ ys)
  each_append [] ys h k = k
  each_append (x ∷ xs) ys h k = (h.0, each_append xs ys h.1 k)

  pub each_take : (i : ℕ) (xs : List A) → Each xs → Each (take i xs)
  each_take zero xs h = tt
  each_take (suc i) [] h = tt
  each_take (suc i) (x ∷ xs) h = (h.0, each_take i xs h.1)

  pub each_drop : (i : ℕ) (xs : List A) → Each xs → Each (drop i xs)
  each_drop zero xs h = h
  each_drop (suc i) [] h = tt
  each_drop (suc i) (x ∷ xs) h = each_drop i xs h.1

pub each_weaken {ℓ} : {A : Type ℓ} (P Q : A → Type 0) → ((x : A) → P x → Q x) → (xs : List A) → Each P xs → Each Q xs
each_weaken P Q f [] h = tt
each_weaken P Q f (x ∷ xs) h = (f x h.0, each_weaken P Q f xs h.1)

pub each_map {ℓ ℓ'} : {A : Type ℓ} {B : Type ℓ'} (P : A → Type 0) (Q : B → Type 0) (f : A → B) → ((x : A) → P x → Q (f x)) → (xs : List A) → Each P xs → Each Q (map f xs)
each_map P Q f g [] h = tt
each_map P Q f g (x ∷ xs) h = (g x h.0, each_map P Q f g xs h.1)

-- ---- the sum of products

unfoldable pub dot : List ℤ → List ℤ → ℤ
dot [] a = pos 0
dot (w ∷ ws) [] = pos 0
dot (w ∷ ws) (a ∷ as') = w *ℤ a +ℤ dot ws as'

pub dot_none : (a : List ℤ) → dot [] a ≡ pos 0
unfolding dot
dot_none a = refl

-- the right list times a number
pub dot_scale : (c : ℤ) (w a : List ℤ) → dot w (map (λ (x : ℤ). x *ℤ c) a) ≡ dot w a *ℤ c
unfolding dot
dot_scale c [] a = sym (zero-*ℤ c)
dot_scale c (w ∷ ws) [] = sym (zero-*ℤ c)
dot_scale c (w ∷ ws) (a ∷ b) =
    ap₂ (λ (x y : ℤ). x +ℤ y) (sym (*ℤ_assoc w a c)) (dot_scale c ws b) ∙ sym (add-*ℤ (w *ℤ a) (dot ws b) c)

-- one pair more, as a loop from the front adds it
pub dot_next : (i : ℕ) (w a : List ℤ) → i < length w → i < length a →
    dot (take (suc i) w) (take (suc i) a) ≡ dot (take i w) (take i a) +ℤ get_or w i (pos 0) *ℤ get_or a i (pos 0)
unfolding dot
dot_next zero [] a h k = absurd (not-suc-le-zero h)
dot_next zero (w ∷ ws) [] h k = absurd (not-suc-le-zero k)
dot_next zero (w ∷ ws) (a ∷ b) h k = +ℤ_idr (w *ℤ a) ∙ sym (+ℤ_idl (w *ℤ a))
dot_next (suc i) [] a h k = absurd (not-suc-le-zero h)
dot_next (suc i) (w ∷ ws) [] h k = absurd (not-suc-le-zero k)
dot_next (suc i) (w ∷ ws) (a ∷ b) h k =
    ap (λ (x : ℤ). w *ℤ a +ℤ x) (dot_next i ws b (le_of_suc-le-suc h) (le_of_suc-le-suc k))
    ∙ sym (+ℤ_assoc (w *ℤ a) (dot (take i ws) (take i b)) (get_or ws i (pos 0) *ℤ get_or b i (pos 0)))

-- the sum in a loop from the front: one pair more, and all of them
pub dot_turn : (w a : List ℤ) (i : ℕ) (t : ℤ) → i < length w → i < length a → t ≡ dot (take i w) (take i a) →
    t +ℤ get_or w i (pos 0) *ℤ get_or a i (pos 0) ≡ dot (take (i + 1) w) (take (i + 1) a)
dot_turn w a i t h k e =
    ap (λ (x : ℤ). x +ℤ get_or w i (pos 0) *ℤ get_or a i (pos 0)) e ∙ sym (dot_next i w a h k) ∙ ap (λ (j : ℕ). dot (take j w) (take j a)) (sym (add-one i))

pub dot_all : (w a : List ℤ) (i : ℕ) → length w ≤ i → length a ≤ i → dot (take i w) (take i a) ≡ dot w a
dot_all w a i h k = ap₂ dot (take_all i w h) (take_all i a k)

-- the sum of n products of magnitudes at most s and t
pub dot_bound : (s t : ℕ) (w a : List ℤ) → Each (λ (x : ℤ). nat_abs x ≤ s) w → Each (λ (x : ℤ). nat_abs x ≤ t) a → nat_abs (dot w a) ≤ length w * (s * t)
unfolding dot
dot_bound s t [] a h k = omega arith
dot_bound s t (w ∷ ws) [] h k = omega arith
dot_bound s t (w ∷ ws) (a ∷ b) h k =
    omega (arith, abs_add (w *ℤ a) (dot ws b), abs_mul w a, mul-le-mul h.0 k.0, dot_bound s t ws b h.1 k.1)
