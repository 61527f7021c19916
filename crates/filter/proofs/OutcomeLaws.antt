-- What becomes of new weights: each outcome, and what it says of them.
use mathlib.Core.Path.{◌≡◌, refl, sym, ap, ap₂, ◌∙◌, subst, fun_ext}
use mathlib.Core.Bool.{Bool, true, false, ◌&&◌, cond}
use mathlib.Core.List.{List, map, map-map}
use Prim.Native.Nat.{ℕ, zero, suc, ◌-◌, ◌^◌, ◌≤◌, ◌<◌}
use native.Mathlib.Omega.{arith}
use lib.Dec.{T}
use lib.ListN.{length, length-map}
use lib.IntN.{ℤ, nat_abs}
use borrow.Author.Tests.{lt-ltb}
use Rattle.laws.specs.Lists.{and_left, and_right}
use Rattle.laws.specs.Sums.{Each, each_map}
use Rattle.numbers.specs.Cut.{cut, raise}
use Rattle.numbers.proofs.CutLaws.{cut_lt, raise_abs, raise_raise}
use Rattle.steps.specs.Limits.{weight_unit, exponent_limit, halving_limit, doubling_limit}
use Rattle.steps.specs.Settings.{Settings}
use Rattle.steps.specs.Fir.{Small, all_below, all_small, halved, doubled}
use Rattle.steps.proofs.LargestLaws.{all_below_lem, below_all}
use Rattle.filter.specs.Sample.{FilterState, Outcome, keep, halve, double, can_fall, outcome_of, normalised, normalised_exponent, new_forward, new_back, outcome, values_of, SameValues}

-- ---- what an outcome says of ψ and of the new weights

abbrev pub Says : Outcome → ℕ → List ℤ → List ℤ → Type 0
Says keep ψ f b = Each Small f × Each Small b
Says halve ψ f b = (all_small f && all_small b) ≡ false
Says double ψ f b = (1 ≤ ψ) × (Each (λ (x : ℤ). nat_abs x < doubling_limit) f × Each (λ (x : ℤ). nat_abs x < doubling_limit) b)

falls : (ψ : ℕ) → can_fall ψ ≡ true → 1 ≤ ψ
falls zero e = absurd (subst T (sym e) tt)
falls (suc ψ) e = omega arith

pub can_fall_lem : (ψ : ℕ) → 1 ≤ ψ → can_fall ψ ≡ true
can_fall_lem ψ h = lt-ltb 0 ψ h

outcome_says : (ψ : ℕ) (f b : List ℤ) → Says (outcome_of ψ f b) ψ f b
unfolding outcome_of
outcome_says ψ f b = go (all_small f && all_small b) refl (can_fall ψ) refl (all_below doubling_limit f && all_below doubling_limit b) refl
  where
    both : (limit : ℕ) → (all_below limit f && all_below limit b) ≡ true → Each (λ (x : ℤ). nat_abs x < limit) f × Each (λ (x : ℤ). nat_abs x < limit) b
    both limit e = (all_below_lem limit f (and_left (all_below limit f) (all_below limit b) e), all_below_lem limit b (and_right (all_below limit f) (all_below limit b) e))

    go : (s : Bool) → (all_small f && all_small b) ≡ s → (p : Bool) → can_fall ψ ≡ p → (d : Bool) → (all_below doubling_limit f && all_below doubling_limit b) ≡ d →
        Says (cond s (cond (p && d) double keep) halve) ψ f b
    go false e p q d r = e
    go true e true q true r = (falls ψ q, both doubling_limit r)
    go true e true q false r = both halving_limit e
    go true e false q d r = both halving_limit e

pub sample_says : (k : Settings) (Γ : ℕ) (t : FilterState) (entry : ℤ) → Says (outcome k Γ t entry) t.ψ (new_forward k Γ t entry) (new_back k Γ t entry)
unfolding outcome
sample_says k Γ t entry = outcome_says t.ψ (new_forward k Γ t entry) (new_back k Γ t entry)

-- ---- the weights that are left are small

-- one halving is enough
halved_small : (w : List ℤ) → Each (λ (x : ℤ). nat_abs x < 2 ^ weight_unit) w → Each Small (halved w)
halved_small w h = each_map (λ (x : ℤ). nat_abs x < 2 ^ weight_unit) Small (λ (x : ℤ). cut x 1) (λ x l. cut_lt x weight_unit (weight_unit - 1) 1 refl l) w h

doubled_small : (w : List ℤ) → Each (λ (x : ℤ). nat_abs x < doubling_limit) w → Each Small (doubled w)
doubled_small w h = each_map (λ (x : ℤ). nat_abs x < doubling_limit) Small (λ (x : ℤ). raise x 1) (λ x l. omega (arith, raise_abs x 1)) w h

pub normalised_small : (s : Outcome) (ψ : ℕ) (f b : List ℤ) → Says s ψ f b → Each (λ (x : ℤ). nat_abs x < 2 ^ weight_unit) f → Each (λ (x : ℤ). nat_abs x < 2 ^ weight_unit) b →
    Each Small (normalised s f) × Each Small (normalised s b)
normalised_small keep ψ f b h j i = h
normalised_small halve ψ f b h j i = (halved_small f j, halved_small b i)
normalised_small double ψ f b h j i = (doubled_small f h.1.0, doubled_small b h.1.1)

pub normalised_length : (s : Outcome) (w : List ℤ) → length (normalised s w) ≡ length w
normalised_length keep w = refl
normalised_length halve w = length-map w _
normalised_length double w = length-map w _

-- ---- a doubled weight at the lower ψ means the same number

doubled_values : (ψ : ℕ) (w : List ℤ) → 1 ≤ ψ → values_of (ψ - 1) (doubled w) ≡ values_of ψ w
doubled_values ψ w h =
    map-map (λ (x : ℤ). raise x (ψ - 1)) (λ (x : ℤ). raise x 1) w ∙ ap (λ (f : ℤ → ℤ). map f w) (fun_ext (λ x. raise_raise x 1 (ψ - 1) ψ (omega arith)))

pub doubled_same : (ψ : ℕ) (f b : List ℤ) → 1 ≤ ψ → SameValues ψ f b (ψ - 1) (doubled f) (doubled b)
doubled_same ψ f b h = record { ahead = doubled_values ψ f h; behind = doubled_values ψ b h }

-- weights that are small already are kept or doubled
pub small_same : (s : Outcome) (ψ : ℕ) (f b : List ℤ) → Says s ψ f b → Each Small f → Each Small b → SameValues ψ f b (normalised_exponent s ψ) (normalised s f) (normalised s b)
small_same keep ψ f b h j i = record { ahead = refl; behind = refl }
small_same halve ψ f b h j i = absurd (subst T (sym (ap₂ (λ (x y : Bool). x && y) (tests f j) (tests b i)) ∙ h) tt)
  where
    tests : (w : List ℤ) → Each Small w → all_small w ≡ true
    tests w j = below_all halving_limit w j
small_same double ψ f b h j i = doubled_same ψ f b h.0

-- ---- ψ passes its limit only by a halving from its limit

pub passes : (s : Outcome) (ψ : ℕ) → ψ ≤ exponent_limit → exponent_limit < normalised_exponent s ψ → (s ≡ halve) × (ψ ≡ exponent_limit)
passes keep ψ h l = absurd (omega arith)
passes halve ψ h l = (refl, omega arith)
passes double ψ h l = absurd (omega arith)
