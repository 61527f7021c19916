-- The values of a function at 0 to n − 1.
use Rattle.std.specs.Prelude.{◌≡◌, refl, Bool, true, List, [], ◌∷◌, ◌++◌, ◌⊎◌, set}
use Rattle.std.proofs.Common.{sym, ap₂, ◌∙◌, inl, inr, eq-or-lt_of_le, add-one, ext_get_or}
use Rattle.std.proofs.Math.Path.{ap}
use Prim.Native.Nat.{ℕ, zero, suc, ◌+◌, ◌*◌, ◌≤◌, ◌<◌}
use native.Mathlib.Omega.{arith}
use Rattle.std.proofs.Math.Nat.{suc_inj, mul-le-mul_left}
use Rattle.std.proofs.Math.ListN.{length, get_or, length-append, get_or-append}
use Rattle.std.proofs.lemmas.List.{get_or_at}
use Rattle.std.proofs.Math.Seq.{get_or-append-add}
use Rattle.laws.specs.Lists.{all}
use Rattle.laws.specs.Loops.{Written, written_next, written_all}
use Rattle.laws.specs.Sums.{Each, each_of}
use Rattle.laws.specs.Tests.{tested_each}

unfoldable pub values {ℓ} : {A : Type ℓ} → (ℕ → A) → ℕ → List A
values f zero = []
values f (suc n) = values f n ++ (f n ∷ [])

pub values_length {ℓ} : {A : Type ℓ} (f : ℕ → A) (n : ℕ) → length (values f n) ≡ n
unfolding values
values_length f zero = refl
values_length f (suc n) = length-append (values f n) (f n ∷ []) ∙ ap (λ (m : ℕ). m + 1) (values_length f n) ∙ add-one n

pub values_at {ℓ} : {A : Type ℓ} (f : ℕ → A) (d : A) (n i : ℕ) → i < n → get_or (values f n) i d ≡ f i
unfolding values
values_at f d zero i h = absurd (omega arith)
values_at f d (suc n) i h = go (eq-or-lt_of_le h) (λ l. values_at f d n i l)
  where
    go : (suc i ≡ suc n) ⊎ (suc i < suc n) → (i < n → get_or (values f n) i d ≡ f i) → get_or (values f n ++ (f n ∷ [])) i d ≡ f i
    go (inl q) rest = get_or_at (values f n) (f n) [] d i (values_length f n ∙ sym (suc_inj q)) ∙ ap f (sym (suc_inj q))
    go (inr l) rest = get_or-append (values f n) (f n ∷ []) d i (omega (arith, values_length f n)) ∙ rest (omega arith)

module _ {A : Type 0} (d : A) where
  -- those of equal functions
  pub values_same : (f g : ℕ → A) (n : ℕ) → ((i : ℕ) → i < n → f i ≡ g i) → values f n ≡ values g n
  values_same f g n h =
      ext_get_or d (values f n) (values g n) (values_length f n ∙ sym (values_length g n))
      (λ i k. let l : i < n = omega (arith, values_length f n) in values_at f d n i l ∙ h i l ∙ sym (values_at g d n i l))

  -- a fact of every value, and a test that every value passes
  pub values_each : (P : A → Type 0) (f : ℕ → A) (n : ℕ) → ((i : ℕ) → i < n → P (f i)) → Each P (values f n)
  values_each P f n h = each_of P d (values f n) (λ i k. let l : i < n = omega (arith, values_length f n) in rw (values_at f d n i l) (h i l))

  pub values_tested : (p : A → Bool) (f : ℕ → A) (n : ℕ) → ((i : ℕ) → i < n → p (f i) ≡ true) → all p (values f n) ≡ true
  values_tested p f n h = tested_each p (λ x. p x ≡ true) (λ x e. e) (values f n) (values_each (λ x. p x ≡ true) f n h)

-- a loop writes them
module _ {A : Type 0} (f : ℕ → A) (n : ℕ) {old now : List A} {i : ℕ} (w : Written (values f n) old i now) where
  pub values_written : (d x : A) → i < n → i < length old → x ≡ f i → Written (values f n) old (i + 1) (set now i x)
  values_written d x h k e = written_next w d x (omega (arith, values_length f n)) k (e ∙ sym (values_at f d n i h))

  pub values_all : length old ≡ n → n ≤ i → now ≡ values f n
  values_all e h = written_all w (values_length f n ∙ sym e) (omega arith)

-- the lists f 0 to f (n − 1), one after another
unfoldable pub joined : (ℕ → List ℕ) → ℕ → List ℕ
joined f zero = []
joined f (suc n) = joined f n ++ f n

pub joined_none : (f : ℕ → List ℕ) → joined f 0 ≡ []
unfolding joined
joined_none f = refl

pub joined_next : (f : ℕ → List ℕ) (n : ℕ) → joined f (suc n) ≡ joined f n ++ f n
unfolding joined
joined_next f n = refl

pub joined_same : (f g : ℕ → List ℕ) (n : ℕ) → ((i : ℕ) → i < n → f i ≡ g i) → joined f n ≡ joined g n
unfolding joined
joined_same f g zero h = refl
joined_same f g (suc n) h = ap₂ (λ (a b : List ℕ). a ++ b) (joined_same f g n (λ i l. h i (omega arith))) (h n (omega arith))

-- of m each
module _ (f : ℕ → List ℕ) (m : ℕ) (each : (i : ℕ) → length (f i) ≡ m) where
  pub joined_length : (n : ℕ) → length (joined f n) ≡ m * n
  unfolding joined
  joined_length zero = omega arith
  joined_length (suc n) = length-append (joined f n) (f n) ∙ omega (arith, joined_length n, each n)

  pub joined_at : (n i j : ℕ) → i < n → j < m → get_or (joined f n) (m * i + j) 0 ≡ get_or (f i) j 0
  unfolding joined
  joined_at zero i j h k = absurd (omega arith)
  joined_at (suc n) i j h k = go (eq-or-lt_of_le h) (λ l. joined_at n i j l k)
    where
      go : (suc i ≡ suc n) ⊎ (suc i < suc n) → (i < n → get_or (joined f n) (m * i + j) 0 ≡ get_or (f i) j 0) → get_or (joined f n ++ f n) (m * i + j) 0 ≡ get_or (f i) j 0
      go (inl q) rest =
          let e : i ≡ n = suc_inj q in
          let at : m * i + j ≡ length (joined f n) + j = omega (arith, joined_length n, ap (λ (a : ℕ). m * a) e) in
          ap (λ (a : ℕ). get_or (joined f n ++ f n) a 0) at ∙ get_or-append-add (joined f n) (f n) j 0 ∙ ap (λ (a : ℕ). get_or (f a) j 0) (sym e)
      go (inr l) rest =
          let s : suc i ≤ n = omega arith in
          get_or-append (joined f n) (f n) 0 (m * i + j) (omega (arith, joined_length n, mul-le-mul_left m s, k)) ∙ rest (omega arith)
