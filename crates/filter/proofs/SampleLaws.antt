-- Laws for the functions of a sample.
use mathlib.Core.Path.{◌≡◌, refl, sym, ◌∙◌, subst, subst₂}
use mathlib.Core.Bool.{Bool, true, false, ◌&&◌, cond}
use mathlib.Core.List.{List}
use Prim.Native.Nat.{ℕ, ◌+◌, ◌-◌, ◌^◌, ◌≤◌, ◌<◌}
use native.Mathlib.Numerals.{add-one}
use native.Mathlib.Omega.{arith}
use lib.Bits.{bit_or}
use lib.Dec.{ltb}
use lib.IntN.{ℤ}
use borrow.Author.Tests.{lt-ltb, le-ltb}
use Rattle.laws.specs.Sums.{Each}
use lib.ListN.{length, take, drop, set, length-drop}
use lib.Seq.{take_all, drop-set-lt}
use Rattle.steps.specs.Settings.{Settings}
use Rattle.steps.specs.Decision.{decide}
use Rattle.steps.specs.Sound.{ErrorBounds, or_all}
use Rattle.steps.proofs.FirLaws.{doublable}
use Rattle.steps.proofs.LargestLaws.{or_left, or_right, both_below}
use Rattle.steps.proofs.SymbolLaws.{symbol_below, decide_symbol, chosen_symbol}
use Rattle.steps.specs.Limits.{weight_unit, halving_limit, doubling_limit}
use Rattle.steps.specs.Fir.{Small, all_below, all_small, halved, doubled, magnitudes}
use Rattle.filter.specs.Sample.{FilterState, Outcome, keep, halve, double, can_fall, outcome_of, normalised, normalised_exponent}
use Rattle.filter.proofs.OutcomeLaws.{can_fall_lem}
use Rattle.filter.specs.Calls.{DecisionBounds, NormalisedIs, SampleResultIs, chosen, filter_state_of}
use Rattle.filter.specs.declared.sample.SampleResult.{SampleResult}

-- ---- step 7

-- the outcome s, from the tests that the code makes
pub normalised_as : (s : Outcome) {ψ ψ' : ℕ} {f b f' b' : List ℤ} → outcome_of ψ f b ≡ s → ψ' ≡ normalised_exponent s ψ → f' ≡ normalised s f → b' ≡ normalised s b → NormalisedIs ψ f b ψ' f' b'
normalised_as s e h i j = record { exponent = rw e h; ahead = rw e i; behind = rw e j }

module _ (ψ : ℕ) (f b : List ℤ) where
  pub halves : (all_small f && all_small b) ≡ false → outcome_of ψ f b ≡ halve
  unfolding outcome_of
  halves e = simp e

  pub keeps_lowest : (all_small f && all_small b) ≡ true → ψ ≡ 0 → outcome_of ψ f b ≡ keep
  unfolding outcome_of
  keeps_lowest e z = simp (e, z)

  pub keeps : (all_small f && all_small b) ≡ true → (all_below doubling_limit f && all_below doubling_limit b) ≡ false → outcome_of ψ f b ≡ keep
  unfolding outcome_of
  keeps e d = rw (e, d) (go (can_fall ψ))
    where
      go : (p : Bool) → cond (p && false) double keep ≡ keep
      go true = refl
      go false = refl

  pub doubles : (all_small f && all_small b) ≡ true → can_fall ψ ≡ true → (all_below doubling_limit f && all_below doubling_limit b) ≡ true → outcome_of ψ f b ≡ double
  unfolding outcome_of
  doubles e z d = simp (e, z, d)

-- by the tests that the code makes of the bits of all new magnitudes together
module _ (f b : List ℤ) {seen : ℕ} (e : seen ≡ bit_or (or_all (magnitudes f)) (or_all (magnitudes b))) where
  -- no weight has reached the limit 2^k where the bits of all have not
  tested : (k : ℕ) → (all_below (2 ^ k) f && all_below (2 ^ k) b) ≡ ltb seen (2 ^ k)
  tested k = sym (rw e (both_below k f b))

  small : seen < halving_limit → (all_small f && all_small b) ≡ true
  small h = tested (weight_unit - 1) ∙ lt-ltb seen halving_limit h

  pub normalised_halved : {ψ : ℕ} {f' b' : List ℤ} → halving_limit ≤ seen → (f' ≡ halved f) × (b' ≡ halved b) → NormalisedIs ψ f b (ψ + 1) f' b'
  normalised_halved {ψ} h i = normalised_as halve (halves ψ f b (tested (weight_unit - 1) ∙ le-ltb seen halving_limit h)) (add-one ψ) i.0 i.1

  pub normalised_lowest : {ψ : ℕ} → seen < halving_limit → ψ ≡ 0 → NormalisedIs ψ f b ψ f b
  normalised_lowest {ψ} h z = normalised_as keep (keeps_lowest ψ f b (small h) z) refl refl refl

  pub normalised_kept : {ψ : ℕ} → seen < halving_limit → doubling_limit ≤ seen → NormalisedIs ψ f b ψ f b
  normalised_kept {ψ} h d = normalised_as keep (keeps ψ f b (small h) (tested (weight_unit - 3) ∙ le-ltb seen doubling_limit d)) refl refl refl

  pub all_doublable : seen < doubling_limit → Each Small f × Each Small b
  all_doublable d =
      let m = or_all (magnitudes f) in
      let n = or_all (magnitudes b) in
      (doublable f (omega (arith, e, or_left m n)), doublable b (omega (arith, e, or_right m n)))

  pub normalised_doubled : {ψ : ℕ} {f' b' : List ℤ} → seen < halving_limit → (ψ ≡ 0 → ⊥) → seen < doubling_limit → (f' ≡ doubled f) × (b' ≡ doubled b) → NormalisedIs ψ f b (ψ - 1) f' b'
  normalised_doubled {ψ} h z d i =
      normalised_as double (doubles ψ f b (small h) (can_fall_lem ψ (omega (arith, z))) (tested (weight_unit - 3) ∙ lt-ltb seen doubling_limit d)) refl i.0 i.1

-- ---- steps 4 and 5

pub error_bounds : {r s ξ : ℕ} {y entry : ℤ} → DecisionBounds r s y ξ entry → ErrorBounds r s (chosen entry (decide r y ξ)) y ξ
error_bounds {r} {s} {ξ} {y} {entry} d = record {
  r_most = d.r_most;
  scale_least = d.scale_least;
  scale_most = d.scale_most;
  v_small = symbol_below r (chosen entry (decide r y ξ)) (chosen_symbol r entry (decide r y ξ) d.entry_is (decide_symbol r y ξ));
  y_small = d.y_small;
  ξ_least = d.ξ_least;
  ξ_most = d.ξ_most;
}

-- of a symbol that is the chosen one
pub error_bounds_of : {r s ξ : ℕ} {y v entry : ℤ} → v ≡ chosen entry (decide r y ξ) → DecisionBounds r s y ξ entry → ErrorBounds r s v y ξ
error_bounds_of e d = rw e (error_bounds d)

-- ---- steps 6 and 7

-- what holds of the weights that were settled holds of weights equal to them
pub normalised_of : {ψ ψ' : ℕ} {f b f₀ b₀ f' b' : List ℤ} → f ≡ f₀ → b ≡ b₀ → NormalisedIs ψ f b ψ' f' b' → NormalisedIs ψ f₀ b₀ ψ' f' b'
normalised_of {ψ = ψ} {ψ' = ψ'} {f' = f'} {b' = b'} e h s = subst₂ (λ (x y : List ℤ). NormalisedIs ψ x y ψ' f' b') e h s

-- ---- the symbols, whose first place is for the new one

pub first_place : (n : ℕ) (l : List ℤ) → length (drop 1 l) ≡ n → 1 ≤ n → 1 ≤ length l
first_place n l e h = omega (arith, length-drop 1 l)

pub past : (l : List ℤ) → take (length l - 1) (drop 1 l) ≡ drop 1 l
past l = take_all (length l - 1) (drop 1 l) (omega (arith, length-drop 1 l))

pub past_kept : (l : List ℤ) (v : ℤ) → take (length (set l 0 v) - 1) (drop 1 (set l 0 v)) ≡ drop 1 l
past_kept l v = past (set l 0 v) ∙ drop-set-lt 1 l 0 v (omega arith)

-- a step on equal windows, symbols and entries
pub taken_of : {k : Settings} {Γ ψ : ℕ} {f b w w₀ y y₀ : List ℤ} {x x₀ : ℤ} {r : SampleResult} {f' b' y' : List ℤ} → w ≡ w₀ → y ≡ y₀ → x ≡ x₀ →
    SampleResultIs k Γ (filter_state_of f b w y ψ) x r f' b' y' → SampleResultIs k Γ (filter_state_of f b w₀ y₀ ψ) x₀ r f' b' y'
taken_of e d h t = rw (e, d, h) at t

-- with equal symbols after it
pub taken_put : {k : Settings} {Γ : ℕ} {t : FilterState} {x : ℤ} {r : SampleResult} {f' b' y y' : List ℤ} → y ≡ y' → SampleResultIs k Γ t x r f' b' y → SampleResultIs k Γ t x r f' b' y'
taken_put {k = k} {Γ = Γ} {t = t} {x = x} {r = r} {f' = f'} {b' = b'} e h = subst (λ (l : List ℤ). SampleResultIs k Γ t x r f' b' l) e h
