-- What step 7 and the doubling after it leave, and weights that are frozen.
use mathlib.Core.Path.{◌≡◌, refl, ap, ◌∙◌, subst₂}
use mathlib.Core.List.{List}
use Prim.Native.Nat.{ℕ, ◌^◌, ◌≤◌}
use native.Mathlib.Omega.{arith}
use lib.IntN.{ℤ, pos, zero-*ℤ}
use Rattle.laws.specs.Sums.{Each}
use Rattle.numbers.specs.Cut.{cut}
use Rattle.numbers.proofs.CutLaws.{cut_zero}
use Rattle.steps.specs.Settings.{Settings}
use Rattle.steps.specs.Fir.{Fir, Small, factor, factor_shift, new_weights, adapt}
use Rattle.steps.proofs.FirLaws.{adapt_none}
use Rattle.filter.specs.Sample.{FilterState, Outcome, keep, halve, double, normalised, normalised_exponent, Z, θ, J, forward_fir, back_fir, new_forward, new_back, outcome, next, SameValues, Normalised, kept, halved_once, doubled_once}
use Rattle.filter.proofs.NextLaws.{next_forward, next_back, next_ψ}
use Rattle.filter.proofs.OutcomeLaws.{Says, sample_says, doubled_same, small_same}

module _ (k : Settings) (Γ : ℕ) (t : FilterState) (entry : ℤ) where
  -- ---- step 7, and what follows it

  -- what is left, where the outcome is s
  ahead : (s : Outcome) → outcome k Γ t entry ≡ s → (next k Γ t entry).forward ≡ normalised s (new_forward k Γ t entry)
  ahead s e = next_forward k Γ t entry ∙ ap (λ x. normalised x (new_forward k Γ t entry)) e

  behind : (s : Outcome) → outcome k Γ t entry ≡ s → (next k Γ t entry).back ≡ normalised s (new_back k Γ t entry)
  behind s e = next_back k Γ t entry ∙ ap (λ x. normalised x (new_back k Γ t entry)) e

  exponent : (s : Outcome) → outcome k Γ t entry ≡ s → (next k Γ t entry).ψ ≡ normalised_exponent s t.ψ
  exponent s e = next_ψ k Γ t entry ∙ ap (λ x. normalised_exponent x t.ψ) e

  values_same : outcome k Γ t entry ≡ double → 1 ≤ t.ψ →
      SameValues t.ψ (new_forward k Γ t entry) (new_back k Γ t entry) (next k Γ t entry).ψ (next k Γ t entry).forward (next k Γ t entry).back
  values_same e l = rw (ahead double e, behind double e, exponent double e) (doubled_same t.ψ (new_forward k Γ t entry) (new_back k Γ t entry) l)

  pub normalised_once : Normalised k Γ t entry
  normalised_once = go (outcome k Γ t entry) refl (sample_says k Γ t entry)
    where
      go : (s : Outcome) → outcome k Γ t entry ≡ s → Says s t.ψ (new_forward k Γ t entry) (new_back k Γ t entry) → Normalised k Γ t entry
      go keep e h = kept (ahead keep e) (behind keep e) (exponent keep e)
      go halve e h = halved_once (ahead halve e) (behind halve e) (exponent halve e)
      go double e h = doubled_once (ahead double e) (behind double e) (omega (arith, exponent double e, h.0)) (values_same e h.0)

  -- ---- M = 0

  module _ (e : k.M ≡ 0) where
    J_none : (f : Fir) → J k Γ t entry f ≡ pos 0
    unfolding J
    J_none f =
        ap (λ (m : ℕ). factor m (Z k Γ t entry) t.ψ (θ k Γ t entry) f) e
        ∙ ap (λ (z : ℤ). cut z (factor_shift t.ψ (θ k Γ t entry) f)) (zero-*ℤ (Z k Γ t entry)) ∙ cut_zero (factor_shift t.ψ (θ k Γ t entry) f)

    weights_none : (f : Fir) → new_weights (J k Γ t entry f) f ≡ f.weights
    weights_none f =
        ap (λ (j : ℤ). new_weights j f) (J_none f) ∙ ap (λ (z : ℤ). adapt z f.weights f.mantissas) (zero-*ℤ (pos (2 ^ f.scale)))
        ∙ adapt_none f.weights f.mantissas

    forward_none : new_forward k Γ t entry ≡ t.forward
    unfolding new_forward
    forward_none = weights_none (forward_fir k Γ t entry)

    back_none : new_back k Γ t entry ≡ t.back
    unfolding new_back
    back_none = weights_none (back_fir k Γ t entry)

    pub frozen : Each Small t.forward → Each Small t.back →
        SameValues t.ψ t.forward t.back (next k Γ t entry).ψ (next k Γ t entry).forward (next k Γ t entry).back
    unfolding next
    frozen f b =
        subst₂ (λ (x y : List ℤ). SameValues t.ψ x y (next k Γ t entry).ψ (next k Γ t entry).forward (next k Γ t entry).back) forward_none back_none
        (small_same (outcome k Γ t entry) t.ψ (new_forward k Γ t entry) (new_back k Γ t entry) (sample_says k Γ t entry) (rw forward_none f) (rw back_none b))
