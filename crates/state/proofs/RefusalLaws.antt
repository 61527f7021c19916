-- No refusal has the number 0, so a test after it goes by its number.
use mathlib.Core.Path.{◌≡◌, sym, ap, ◌∙◌}
use mathlib.Core.Bool.{Bool, false, cond}
use Prim.Native.Nat.{ℕ, ◌≤◌}
use native.Mathlib.Omega.{arith}
use lib.Dec.{eqb}
use borrow.Author.Tests.{eq-eqb, ne_eqb}
use Rattle.state.specs.Refusal.{number_of}
use Rattle.state.specs.declared.refusal.Refusal.{Refusal}
use Rattle.state.specs.declared.refusal.Refusal.TheVariants.{Size, Step, Length, Gain, Entry, Exponent, Buffer, Bytes, State}

pub number_least : (x : Refusal) → 1 ≤ number_of x
number_least Size = omega arith
number_least Step = omega arith
number_least Length = omega arith
number_least Gain = omega arith
number_least Entry = omega arith
number_least Exponent = omega arith
number_least Buffer = omega arith
number_least Bytes = omega arith
number_least State = omega arith

nonzero : (x : Refusal) → eqb (number_of x) 0 ≡ false
nonzero x = ne_eqb (number_of x) 0 (λ e. omega (arith, number_least x))

-- a test of the number: after a refusal its other side stands, and its number where that is the other side
pub refusal_stands : (x : Refusal) {A : Type 0} (a b : A) {n : ℕ} → number_of x ≡ n → b ≡ cond (eqb n 0) a b
refusal_stands x a b e = sym (ap (λ (t : Bool). cond t a b) (ap (λ (m : ℕ). eqb m 0) (sym e) ∙ nonzero x))

pub refusal_told : (x : Refusal) (m : ℕ) {n : ℕ} → number_of x ≡ n → number_of x ≡ cond (eqb n 0) m n
refusal_told x m {n} e = e ∙ refusal_stands x m n e

-- and after none its first side
pub none_told : {A : Type 0} (a b : A) {n : ℕ} → 0 ≡ n → a ≡ cond (eqb n 0) a b
none_told a b {n} e = sym (ap (λ (t : Bool). cond t a b) (eq-eqb n 0 (sym e)))

pub ruleset refusals = (refusal_stands, refusal_told, none_told)
