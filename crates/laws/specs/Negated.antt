-- The negatives of a list of numbers: odd functions take them to negatives, even ones and sums of products don't see them.
use Rattle.std.specs.Prelude.{◌≡◌, refl, Bool, ◌&&◌, List, [], ◌∷◌, map, ℕ, zero, suc, get_or, take, replicate, ℤ, pos, neg_ℤ, nat_abs, ◌+ℤ◌, ◌*ℤ◌}
use Rattle.std.proofs.Common.{sym, ap, ap₂, ◌∙◌, subst}
use Rattle.std.proofs.Math.ListN.{get_or-map}
use Rattle.std.proofs.Math.IntN.{*ℤ_comm, neg_ℤ-neg_ℤ}
use Rattle.laws.specs.Integers.{neg-*ℤ, abs_neg}
use Rattle.laws.specs.Lists.{all}
use Rattle.laws.specs.Sums.{Each, each_map, dot}

abbrev pub negated : List ℤ → List ℤ
negated l = map neg_ℤ l

pub negated_negated : (l : List ℤ) → negated (negated l) ≡ l
negated_negated [] = refl
negated_negated (x ∷ l) = ap₂ ◌∷◌ (neg_ℤ-neg_ℤ x) (negated_negated l)

-- ---- products

pub *ℤ_neg : (a b : ℤ) → a *ℤ neg_ℤ b ≡ neg_ℤ (a *ℤ b)
*ℤ_neg a b = *ℤ_comm a (neg_ℤ b) ∙ neg-*ℤ b a ∙ ap neg_ℤ (*ℤ_comm b a)

pub neg_*ℤ_neg : (a b : ℤ) → neg_ℤ a *ℤ neg_ℤ b ≡ a *ℤ b
neg_*ℤ_neg a b = neg-*ℤ a (neg_ℤ b) ∙ ap neg_ℤ (*ℤ_neg a b) ∙ neg_ℤ-neg_ℤ (a *ℤ b)

-- ---- a function of each

pub map_odd : (f : ℤ → ℤ) → ((x : ℤ) → f (neg_ℤ x) ≡ neg_ℤ (f x)) → (l : List ℤ) → map f (negated l) ≡ negated (map f l)
map_odd f h [] = refl
map_odd f h (x ∷ l) = ap₂ ◌∷◌ (h x) (map_odd f h l)

pub map_even {ℓ} : {A : Type ℓ} (f : ℤ → A) → ((x : ℤ) → f (neg_ℤ x) ≡ f x) → (l : List ℤ) → map f (negated l) ≡ map f l
map_even f h [] = refl
map_even f h (x ∷ l) = ap₂ ◌∷◌ (h x) (map_even f h l)

pub all_even : (p : ℤ → Bool) → ((x : ℤ) → p (neg_ℤ x) ≡ p x) → (l : List ℤ) → all p (negated l) ≡ all p l
all_even p h [] = refl
all_even p h (x ∷ l) = ap₂ ◌&&◌ (h x) (all_even p h l)

-- a fact of each magnitude
pub each_negated : (P : ℕ → Type 0) (l : List ℤ) → Each (λ (x : ℤ). P (nat_abs x)) l → Each (λ (x : ℤ). P (nat_abs x)) (negated l)
each_negated P l h = each_map (λ (x : ℤ). P (nat_abs x)) (λ (x : ℤ). P (nat_abs x)) neg_ℤ (λ x p. subst P (sym (abs_neg x)) p) l h

-- ---- parts

pub negated_at : (l : List ℤ) (i : ℕ) → get_or (negated l) i (pos 0) ≡ neg_ℤ (get_or l i (pos 0))
negated_at l i = get_or-map neg_ℤ l i (pos 0)

pub negated_take : (i : ℕ) (l : List ℤ) → take i (negated l) ≡ negated (take i l)
negated_take zero l = refl
negated_take (suc i) [] = refl
negated_take (suc i) (x ∷ l) = ap (λ (r : List ℤ). neg_ℤ x ∷ r) (negated_take i l)

pub negated_zeros : (n : ℕ) → negated (replicate n (pos 0)) ≡ replicate n (pos 0)
negated_zeros zero = refl
negated_zeros (suc n) = ap (λ (r : List ℤ). pos 0 ∷ r) (negated_zeros n)

pub take_zeros : (i n : ℕ) → take i (replicate n (pos 0)) ≡ negated (take i (replicate n (pos 0)))
take_zeros i n = ap (take i) (sym (negated_zeros n)) ∙ negated_take i (replicate n (pos 0))

-- ---- the sum of products

pub dot_negated : (w a : List ℤ) → dot (negated w) (negated a) ≡ dot w a
unfolding dot
dot_negated [] a = refl
dot_negated (w ∷ ws) [] = refl
dot_negated (w ∷ ws) (a ∷ b) = ap₂ ◌+ℤ◌ (neg_*ℤ_neg w a) (dot_negated ws b)
