-- An equation over ℤ that holds in every commutative ring, by one call:
--   ring (a ∷ b ∷ pos (2 ^ k) ∷ []) (search terms depth 40) tt
-- The list names the atoms, at most twelve (with more: `search (terms, var, here, there)`). A term may be any listed atom, a sum, a difference, a product, a negation, `pos` of a sum or a product, or a closed numeral.
-- An atom comes before every other reading, and a numeral is closed only where it computes: so `pos (2 ^ k)` or `a *ℤ b` may be an atom.
-- A large equation wants `fits 5000` too: the search takes about as many as there are signs, times the depth.
use Rattle.std.specs.Prelude.{◌≡◌, refl, Bool, List, [], ◌∷◌, ℕ, ◌+◌, ◌*◌, ◌^◌, T, leb, ℤ, pos, negsuc, neg_ℤ, ◌+ℤ◌, ◌-ℤ◌, ◌*ℤ◌}
use Rattle.std.proofs.Common.{sym, ap, ap₂, ◌∙◌}
use Rattle.std.proofs.Math.IntN.{+ℤ_idl, +ℤ_idr, *ℤ_comm, *ℤ-zero, -ℤ-+ℤ_cancel}
use Rattle.laws.specs.Integers.{one-*ℤ}
use Rattle.laws.specs.Polynomials.{Poly, con, layer, value, plus, minus, times, vanishes, plus_value, minus_value, times_value, zero_value}

-- x stands in the list
pub data At : List ℤ → ℤ → Type 0 where
  here : {x : ℤ} {ρ : List ℤ} → At (x ∷ ρ) x
  there : {x y : ℤ} {ρ : List ℤ} → At ρ x → At (y ∷ ρ) x

-- a reading of a term. The test of a numeral computes only where the numeral is closed
pub data R (ρ : List ℤ) : ℤ → Type 0 where
  var : {x : ℤ} → At ρ x → R ρ x
  sum : {x y : ℤ} → R ρ x → R ρ y → R ρ (x +ℤ y)
  prod : {x y : ℤ} → R ρ x → R ρ y → R ρ (x *ℤ y)
  neg : {x : ℤ} → R ρ x → R ρ (neg_ℤ x)
  pos_sum : {m n : ℕ} → R ρ (pos m) → R ρ (pos n) → R ρ (pos (m + n))
  pos_prod : {m n : ℕ} → R ρ (pos m) → R ρ (pos n) → R ρ (pos (m * n))
  num : (n : ℕ) → T (leb 0 n) → R ρ (pos n)
  negnum : (n : ℕ) → T (leb 0 n) → R ρ (negsuc n)

pub data Sides (ρ : List ℤ) (x y : ℤ) : Type 0 where
  sides : R ρ x → R ρ y → Sides ρ x y

abbrev pub place : {ρ : List ℤ} {x : ℤ} → At ρ x → Poly
place here = layer (con (pos 0)) (con (pos 1))
place (there a) = layer (place a) (con (pos 0))

abbrev pub poly : {ρ : List ℤ} {x : ℤ} → R ρ x → Poly
poly (var a) = place a
poly (sum a b) = plus (poly a) (poly b)
poly (prod a b) = times (poly a) (poly b)
poly (neg a) = minus (poly a)
poly (pos_sum a b) = plus (poly a) (poly b)
poly (pos_prod a b) = times (poly a) (poly b)
poly (num n t) = con (pos n)
poly (negnum n t) = con (negsuc n)

place_value : {ρ : List ℤ} {x : ℤ} (a : At ρ x) → value ρ (place a) ≡ x
place_value (here {x = x}) = +ℤ_idl (x *ℤ pos 1) ∙ *ℤ_comm x (pos 1) ∙ one-*ℤ x
place_value (there {y = y} a) = ap₂ (λ u z. u +ℤ z) (place_value a) (*ℤ-zero y) ∙ +ℤ_idr _

poly_value : {ρ : List ℤ} {x : ℤ} (e : R ρ x) → value ρ (poly e) ≡ x
poly_value (var a) = place_value a
poly_value {ρ = ρ} (sum a b) = plus_value ρ (poly a) (poly b) ∙ ap₂ (λ y z. y +ℤ z) (poly_value a) (poly_value b)
poly_value {ρ = ρ} (prod a b) = times_value ρ (poly a) (poly b) ∙ ap₂ (λ y z. y *ℤ z) (poly_value a) (poly_value b)
poly_value {ρ = ρ} (neg a) = minus_value ρ (poly a) ∙ ap neg_ℤ (poly_value a)
poly_value {ρ = ρ} (pos_sum a b) = plus_value ρ (poly a) (poly b) ∙ ap₂ (λ y z. y +ℤ z) (poly_value a) (poly_value b)
poly_value {ρ = ρ} (pos_prod a b) = times_value ρ (poly a) (poly b) ∙ ap₂ (λ y z. y *ℤ z) (poly_value a) (poly_value b)
poly_value (num n t) = refl
poly_value (negnum n t) = refl

-- the difference of the two sides is zero
abbrev pub same : {ρ : List ℤ} {x y : ℤ} → Sides ρ x y → Bool
same (sides a b) = vanishes (poly (sum a (neg b)))

pub ring : (ρ : List ℤ) {x y : ℤ} (s : Sides ρ x y) → T (same s) → x ≡ y
ring ρ {x = x} {y = y} (sides a b) t =
    sym (-ℤ-+ℤ_cancel x y) ∙ ap (λ z. z +ℤ y) (sym (poly_value (sum a (neg b))) ∙ zero_value ρ (poly (sum a (neg b))) t) ∙ +ℤ_idl y

-- ---- the first places, each one step of the search

abbrev pub at0 : {x : ℤ} {ρ : List ℤ} → R (x ∷ ρ) x
at0 = var here

abbrev pub at1 : {a x : ℤ} {ρ : List ℤ} → R (a ∷ x ∷ ρ) x
at1 = var (there here)

abbrev pub at2 : {a b x : ℤ} {ρ : List ℤ} → R (a ∷ b ∷ x ∷ ρ) x
at2 = var (there (there here))

abbrev pub at3 : {a b c x : ℤ} {ρ : List ℤ} → R (a ∷ b ∷ c ∷ x ∷ ρ) x
at3 = var (there (there (there here)))

abbrev pub at4 : {a b c d x : ℤ} {ρ : List ℤ} → R (a ∷ b ∷ c ∷ d ∷ x ∷ ρ) x
at4 = var (there (there (there (there here))))

abbrev pub at5 : {a b c d e x : ℤ} {ρ : List ℤ} → R (a ∷ b ∷ c ∷ d ∷ e ∷ x ∷ ρ) x
at5 = var (there (there (there (there (there here)))))

abbrev pub at6 : {a b c d e f x : ℤ} {ρ : List ℤ} → R (a ∷ b ∷ c ∷ d ∷ e ∷ f ∷ x ∷ ρ) x
at6 = var (there (there (there (there (there (there here))))))

abbrev pub at7 : {a b c d e f g x : ℤ} {ρ : List ℤ} → R (a ∷ b ∷ c ∷ d ∷ e ∷ f ∷ g ∷ x ∷ ρ) x
at7 = var (there (there (there (there (there (there (there here)))))))

abbrev pub at8 : {a b c d e f g h x : ℤ} {ρ : List ℤ} → R (a ∷ b ∷ c ∷ d ∷ e ∷ f ∷ g ∷ h ∷ x ∷ ρ) x
at8 = var (there (there (there (there (there (there (there (there here))))))))

abbrev pub at9 : {a b c d e f g h i x : ℤ} {ρ : List ℤ} → R (a ∷ b ∷ c ∷ d ∷ e ∷ f ∷ g ∷ h ∷ i ∷ x ∷ ρ) x
at9 = var (there (there (there (there (there (there (there (there (there here)))))))))

abbrev pub at10 : {a b c d e f g h i j x : ℤ} {ρ : List ℤ} → R (a ∷ b ∷ c ∷ d ∷ e ∷ f ∷ g ∷ h ∷ i ∷ j ∷ x ∷ ρ) x
at10 = var (there (there (there (there (there (there (there (there (there (there here))))))))))

abbrev pub at11 : {a b c d e f g h i j k x : ℤ} {ρ : List ℤ} → R (a ∷ b ∷ c ∷ d ∷ e ∷ f ∷ g ∷ h ∷ i ∷ j ∷ k ∷ x ∷ ρ) x
at11 = var (there (there (there (there (there (there (there (there (there (there (there here)))))))))))

pub ruleset terms = (sides, at0, at1, at2, at3, at4, at5, at6, at7, at8, at9, at10, at11, sum, prod, neg, pos_sum, pos_prod, num, negnum, tt)

-- ---- examples

squares : (a b : ℤ) → (a +ℤ b) *ℤ (a -ℤ b) ≡ a *ℤ a -ℤ b *ℤ b
squares a b = ring (a ∷ b ∷ []) (search terms depth 40) tt

thrice : (a : ℤ) (k : ℕ) → pos 3 *ℤ (pos (2 ^ k) -ℤ a) +ℤ pos 3 *ℤ a ≡ pos (2 ^ k) +ℤ pos 2 *ℤ pos (2 ^ k)
thrice a k = ring (a ∷ pos (2 ^ k) ∷ []) (search terms depth 40) tt

regroup : (f : ℤ → ℤ) (a b c : ℤ) → negsuc 0 *ℤ f a *ℤ (a *ℤ b -ℤ c) ≡ c *ℤ f a -ℤ (a *ℤ b) *ℤ f a
regroup f a b c = ring (f a ∷ (a *ℤ b) ∷ c ∷ []) (search terms depth 40) tt
