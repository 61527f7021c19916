-- Tests one after another, tests of every element of a list, and parts of a list as code takes them.
use Rattle.std.specs.Prelude.{◌≡◌, refl, Bool, true, false, ◌&&◌, List, [], ◌∷◌, ◌++◌, ℕ, zero, suc, ◌+◌, ◌-◌, ◌≤◌, leb, eqb, length, take, drop, replicate, ℤ, nat_abs}
use Rattle.std.proofs.Common.{sym, ap, ap₂, arith, length-drop, take_all, SFits, of_z, leb-true, eqb-true, ne_eqb}
use Rattle.std.specs.Int.{Width}
use Rattle.std.proofs.lemmas.Bool.{eqb-false}
use Rattle.laws.specs.Lists.{and_left, and_right, all}
use Rattle.laws.specs.Machine.{zero_bits, zero_of_bits}
use Rattle.laws.specs.Sums.{Each}

-- ---- tests one after another

pub both : (a b : Bool) → a ≡ true → b ≡ true → (a && b) ≡ true
both a b f g = ap₂ (λ (a b : Bool). a && b) f g

pub refuted : (b : Bool) → (b ≡ true → ⊥) → false ≡ b
refuted true h = absurd (h refl)
refuted false h = refl

-- the last of several tests, and those before it
pub last_le : (t : Bool) (a b : ℕ) → (t && leb a b) ≡ true → (t ≡ true) × (a ≤ b)
last_le t a b e = (and_left t (leb a b) e, leb-true a b (and_right t (leb a b) e))

pub last_eq : (t : Bool) (a b : ℕ) → (t && eqb a b) ≡ true → (t ≡ true) × (a ≡ b)
last_eq t a b e = (and_left t (eqb a b) e, eqb-true a b (and_right t (eqb a b) e))

-- a signed number is 0 where its bits are
pub zero_test : {w : Width} {z : ℤ} → SFits w z → eqb (of_z w z) 0 ≡ eqb (nat_abs z) 0
zero_test {w} {z} f = go (eqb (of_z w z) 0) refl
  where
    go : (b : Bool) → eqb (of_z w z) 0 ≡ b → b ≡ eqb (nat_abs z) 0
    go true e = sym (ap (λ (x : ℤ). eqb (nat_abs x) 0) (zero_of_bits f (eqb-true (of_z w z) 0 e)))
    go false e = sym (ne_eqb (nat_abs z) 0 (λ h. eqb-false (of_z w z) 0 e (zero_bits w z h)))

-- ---- each element

pub each_tested {ℓ} : {A : Type ℓ} (p : A → Bool) (P : A → Type 0) → ((x : A) → p x ≡ true → P x) → (xs : List A) → all p xs ≡ true → Each P xs
each_tested p P f [] e = tt
each_tested p P f (x ∷ xs) e = (f x (and_left (p x) (all p xs) e), each_tested p P f xs (and_right (p x) (all p xs) e))

pub tested_each {ℓ} : {A : Type ℓ} (p : A → Bool) (P : A → Type 0) → ((x : A) → P x → p x ≡ true) → (xs : List A) → Each P xs → all p xs ≡ true
tested_each p P f [] h = refl
tested_each p P f (x ∷ xs) h = ap₂ (λ (a b : Bool). a && b) (f x h.0) (tested_each p P f xs h.1)

pub each_parts {ℓ} : {A : Type ℓ} (P : A → Type 0) (xs ys : List A) → Each P (xs ++ ys) → Each P xs × Each P ys
each_parts P [] ys h = (tt, h)
each_parts P (x ∷ xs) ys h = let r = each_parts P xs ys h.1 in ((h.0, r.0), r.1)

-- ---- parts of a list that passes

module _ {ℓ} {A : Type ℓ} (p : A → Bool) where
  pub all_take : (i : ℕ) (xs : List A) → all p xs ≡ true → all p (take i xs) ≡ true
  all_take zero xs e = refl
  all_take (suc i) [] e = refl
  all_take (suc i) (x ∷ xs) e = ap₂ (λ (a b : Bool). a && b) (and_left (p x) (all p xs) e) (all_take i xs (and_right (p x) (all p xs) e))

  pub all_drop : (i : ℕ) (xs : List A) → all p xs ≡ true → all p (drop i xs) ≡ true
  all_drop zero xs e = e
  all_drop (suc i) [] e = refl
  all_drop (suc i) (x ∷ xs) e = all_drop i xs (and_right (p x) (all p xs) e)

  pub all_replicate : (n : ℕ) (a : A) → p a ≡ true → all p (replicate n a) ≡ true
  all_replicate zero a e = refl
  all_replicate (suc n) a e = ap₂ (λ (a b : Bool). a && b) e (all_replicate n a e)

-- ---- parts of a list: its first n elements, those from i on, and n of them

pub front_is {ℓ} : {A : Type ℓ} (n : ℕ) (xs : List A) → take (n - 0) xs ≡ take n xs
front_is n xs = let e : n - 0 ≡ n = omega arith in ap (λ (m : ℕ). take m xs) e

pub rest_is {ℓ} : {A : Type ℓ} (i n : ℕ) (xs : List A) → length xs ≡ n → take (n - i) (drop i xs) ≡ drop i xs
rest_is i n xs l = take_all (n - i) (drop i xs) (omega (arith, length-drop i xs))

pub part_is {ℓ} : {A : Type ℓ} (i n : ℕ) (xs : List A) → take (i + n - i) (drop i xs) ≡ take n (drop i xs)
part_is i n xs = let e : i + n - i ≡ n = omega arith in ap (λ (m : ℕ). take m (drop i xs)) e
