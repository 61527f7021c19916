-- A list at the front of the slots, and zeros after it.
use mathlib.Core.Path.{◌≡◌, refl, sym, ap, ap₂, ◌∙◌}
use mathlib.Core.Bool.{true}
use mathlib.Core.List.{List, [], ◌∷◌, ◌++◌}
use Prim.Native.Nat.{ℕ, suc, ◌-◌, ◌≤◌}
use native.Mathlib.Omega.{arith}
use lib.ListN.{length, take, drop, replicate, take-append-drop, length-append, length-drop, length-replicate}
use lib.Seq.{length-take-le}
use lib.IntN.{ℤ, pos, negsuc}
use borrow.Author.Tests.{eqb-true}
use Rattle.laws.specs.Lists.{all, and_left, and_right}
use Rattle.steps.specs.Limits.{slots}
use Rattle.state.specs.State.{is_zero, padded}

is_zero_lem : (z : ℤ) → is_zero z ≡ true → pos 0 ≡ z
is_zero_lem (pos n) e = ap pos (sym (eqb-true n 0 e))
is_zero_lem (negsuc n) e = absurd (omega (arith, eqb-true (suc n) 0 e))

zeros : (l : List ℤ) → all is_zero l ≡ true → replicate (length l) (pos 0) ≡ l
zeros [] e = refl
zeros (z ∷ l) e = ap₂ (λ (a : ℤ) (r : List ℤ). a ∷ r) (is_zero_lem z (and_left (is_zero z) (all is_zero l) e)) (zeros l (and_right (is_zero z) (all is_zero l) e))

pub padded_back : (n : ℕ) (l : List ℤ) → length l ≡ slots → n ≤ slots → all is_zero (drop n l) ≡ true → padded (take n l) ≡ l
padded_back n l e h z =
    ap (λ (k : ℕ). take n l ++ replicate k (pos 0)) rest
    ∙ ap (λ (r : List ℤ). take n l ++ r) (zeros (drop n l) z)
    ∙ take-append-drop n l
  where
    rest : slots - length (take n l) ≡ length (drop n l)
    rest = omega (arith, length-take-le n l (omega arith), length-drop n l)

pub padded_long : (l : List ℤ) → length l ≤ slots → length (padded l) ≡ slots
padded_long l h = length-append l (replicate (slots - length l) (pos 0)) ∙ omega (arith, length-replicate (slots - length l) (pos 0))
