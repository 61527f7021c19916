-- Polynomials over ℤ in a list of atoms: sum, product, the test for zero, and their values. For `Ring`.
use Rattle.std.specs.Prelude.{◌≡◌, refl, Bool, true, false, cond, List, [], ◌∷◌, T, eqb, ℤ, pos, negsuc, neg_ℤ, ◌+ℤ◌, ◌*ℤ◌}
use Rattle.std.proofs.Common.{sym, ap, ap₂, ◌∙◌, eqb→eq}
use Rattle.std.proofs.Math.IntN.{+ℤ_assoc, +ℤ_comm, +ℤ_idl, +ℤ_idr, *ℤ_comm, *ℤ-zero}
use Rattle.laws.specs.Integers.{*ℤ_add, add-*ℤ, *ℤ_assoc, neg-*ℤ, one-*ℤ}

-- `layer p q` is p + x · q, where x is the first atom and p has only the others
pub data Poly : Type 0 where
  con : ℤ → Poly
  layer : Poly → Poly → Poly

abbrev pub first : List ℤ → ℤ
first [] = pos 0
first (x ∷ ρ) = x

abbrev pub rest : List ℤ → List ℤ
rest [] = []
rest (x ∷ ρ) = ρ

abbrev pub value : List ℤ → Poly → ℤ
value ρ (con k) = k
value ρ (layer p q) = value (rest ρ) p +ℤ first ρ *ℤ value ρ q

abbrev pub shift : ℤ → Poly → Poly
shift k (con l) = con (k +ℤ l)
shift k (layer p q) = layer (shift k p) q

abbrev pub plus : Poly → Poly → Poly
plus (con k) r = shift k r
plus (layer p q) (con l) = layer (shift l p) q
plus (layer p q) (layer s t) = layer (plus p s) (plus q t)

abbrev pub scale : ℤ → Poly → Poly
scale k (con l) = con (k *ℤ l)
scale k (layer p q) = layer (scale k p) (scale k q)

abbrev pub minus : Poly → Poly
minus p = scale (negsuc 0) p

abbrev pub layers : (Poly → Poly) → Poly → Poly
layers f (con l) = layer (f (con l)) (con (pos 0))
layers f (layer p q) = layer (f p) (layers f q)

abbrev pub times : Poly → Poly → Poly
times (con k) r = scale k r
times (layer p q) r = plus (layers (times p) r) (layer (con (pos 0)) (times q r))

abbrev pub is_zero : ℤ → Bool
is_zero (pos n) = eqb n 0
is_zero (negsuc n) = false

abbrev pub vanishes : Poly → Bool
vanishes (con k) = is_zero k
vanishes (layer p q) = cond (vanishes p) (vanishes q) false

-- ---- values

shift_value : (ρ : List ℤ) (k : ℤ) (p : Poly) → value ρ (shift k p) ≡ k +ℤ value ρ p
shift_value ρ k (con l) = refl
shift_value ρ k (layer p q) = ap (λ z. z +ℤ first ρ *ℤ value ρ q) (shift_value (rest ρ) k p) ∙ +ℤ_assoc k _ _

cross : (a b c d : ℤ) → (a +ℤ b) +ℤ (c +ℤ d) ≡ (a +ℤ c) +ℤ (b +ℤ d)
cross a b c d = +ℤ_assoc a b (c +ℤ d) ∙ ap (λ z. a +ℤ z) (sym (+ℤ_assoc b c d) ∙ ap (λ z. z +ℤ d) (+ℤ_comm b c) ∙ +ℤ_assoc c b d) ∙ sym (+ℤ_assoc a c (b +ℤ d))

pub plus_value : (ρ : List ℤ) (p r : Poly) → value ρ (plus p r) ≡ value ρ p +ℤ value ρ r
plus_value ρ (con k) r = shift_value ρ k r
plus_value ρ (layer p q) (con l) = shift_value ρ l (layer p q) ∙ +ℤ_comm l _
plus_value ρ (layer p q) (layer s t) =
    ap₂ (λ y z. y +ℤ first ρ *ℤ z) (plus_value (rest ρ) p s) (plus_value ρ q t)
    ∙ ap (λ z. (value (rest ρ) p +ℤ value (rest ρ) s) +ℤ z) (*ℤ_add (first ρ) (value ρ q) (value ρ t))
    ∙ cross (value (rest ρ) p) (value (rest ρ) s) (first ρ *ℤ value ρ q) (first ρ *ℤ value ρ t)

swap : (a b c : ℤ) → a *ℤ (b *ℤ c) ≡ b *ℤ (a *ℤ c)
swap a b c = sym (*ℤ_assoc a b c) ∙ ap (λ z. z *ℤ c) (*ℤ_comm a b) ∙ *ℤ_assoc b a c

-- c (u + x w) from c u and c w
spread : (x c u w : ℤ) → c *ℤ u +ℤ x *ℤ (c *ℤ w) ≡ c *ℤ (u +ℤ x *ℤ w)
spread x c u w = ap (λ z. c *ℤ u +ℤ z) (swap x c w) ∙ sym (*ℤ_add c u (x *ℤ w))

scale_value : (ρ : List ℤ) (k : ℤ) (p : Poly) → value ρ (scale k p) ≡ k *ℤ value ρ p
scale_value ρ k (con l) = refl
scale_value ρ k (layer p q) =
    ap₂ (λ y z. y +ℤ first ρ *ℤ z) (scale_value (rest ρ) k p) (scale_value ρ k q) ∙ spread (first ρ) k (value (rest ρ) p) (value ρ q)

pub minus_value : (ρ : List ℤ) (p : Poly) → value ρ (minus p) ≡ neg_ℤ (value ρ p)
minus_value ρ p = scale_value ρ (negsuc 0) p ∙ neg-*ℤ (pos 1) (value ρ p) ∙ ap neg_ℤ (one-*ℤ (value ρ p))

-- where f multiplies by c, so do the layers of f
layers_value : (ρ : List ℤ) (c : ℤ) (f : Poly → Poly) → ((p : Poly) → value (rest ρ) (f p) ≡ c *ℤ value (rest ρ) p) → (r : Poly) → value ρ (layers f r) ≡ c *ℤ value ρ r
layers_value ρ c f h (con l) = ap₂ (λ y z. y +ℤ z) (h (con l)) (*ℤ-zero (first ρ)) ∙ +ℤ_idr _
layers_value ρ c f h (layer p q) =
    ap₂ (λ y z. y +ℤ first ρ *ℤ z) (h p) (layers_value ρ c f h q) ∙ spread (first ρ) c (value (rest ρ) p) (value ρ q)

pub times_value : (ρ : List ℤ) (p r : Poly) → value ρ (times p r) ≡ value ρ p *ℤ value ρ r
times_value ρ (con k) r = scale_value ρ k r
times_value ρ (layer p q) r =
    plus_value ρ (layers (times p) r) (layer (con (pos 0)) (times q r))
    ∙ ap₂ (λ y z. y +ℤ z) (layers_value ρ (value (rest ρ) p) (times p) (times_value (rest ρ) p) r)
    (+ℤ_idl _ ∙ ap (λ z. first ρ *ℤ z) (times_value ρ q r) ∙ sym (*ℤ_assoc (first ρ) (value ρ q) (value ρ r)))
    ∙ sym (add-*ℤ (value (rest ρ) p) (first ρ *ℤ value ρ q) (value ρ r))

zero_is : (k : ℤ) → T (is_zero k) → k ≡ pos 0
zero_is (pos n) t = ap pos (eqb→eq n 0 t)
zero_is (negsuc n) t = absurd t

both : (c d : Bool) → T (cond c d false) → T c × T d
both true d t = (tt, t)
both false d t = absurd t

pub zero_value : (ρ : List ℤ) (p : Poly) → T (vanishes p) → value ρ p ≡ pos 0
zero_value ρ (con k) t = zero_is k t
zero_value ρ (layer p q) t =
    let h = both (vanishes p) (vanishes q) t in
    ap₂ (λ y z. y +ℤ first ρ *ℤ z) (zero_value (rest ρ) p h.0) (zero_value ρ q h.1) ∙ +ℤ_idl _ ∙ *ℤ-zero (first ρ)
