-- A sample with the feed forward weights and the stored samples negated: outputs, decision and error are the same, and the next taps are negated likewise.
use mathlib.Core.Path.{◌≡◌, refl, ap₂, ◌∙◌}
use mathlib.Core.List.{List}
use Prim.Native.Nat.{ℕ}
use lib.IntN.{ℤ}
use Rattle.laws.specs.Negated.{negated, dot_negated}
use Rattle.numbers.specs.Cut.{raise}
use Rattle.steps.specs.Limits.{halving_limit, doubling_limit}
use Rattle.steps.specs.Settings.{Settings, scale_forward}
use Rattle.steps.specs.Fir.{Fir}
use Rattle.steps.proofs.NegatedLaws.{adapt_neg, below_neg, halved_neg, doubled_neg}
use Rattle.filter.specs.Sample.{FilterState, Outcome, keep, halve, double, outcome_of, normalised, ν, F, H, Y, ξ, decision, v, κ, Z, θ, J, forward_fir, new_forward, new_back, outcome, next}

abbrev pub swapped_filter_state : FilterState → FilterState
swapped_filter_state t = record { forward = negated t.forward; back = t.back; samples = negated t.samples; symbols = t.symbols; ψ = t.ψ }

-- ---- step 7

outcome_neg : (ψ : ℕ) (forward back : List ℤ) → outcome_of ψ (negated forward) back ≡ outcome_of ψ forward back
unfolding outcome_of
outcome_neg ψ forward back = rw (below_neg halving_limit forward, below_neg doubling_limit forward)

normalised_neg : (o : Outcome) (w : List ℤ) → normalised o (negated w) ≡ negated (normalised o w)
normalised_neg keep w = refl
normalised_neg halve w = halved_neg w
normalised_neg double w = doubled_neg w

module _ (k : Settings) (Γ : ℕ) (t : FilterState) (entry : ℤ) where
  abbrev t' : FilterState
  t' = swapped_filter_state t

  -- ---- steps 1 to 5

  F_same : F k Γ t' entry ≡ F k Γ t entry
  unfolding F
  F_same = dot_negated t.forward t.samples

  pub Y_same : Y k Γ t' entry ≡ Y k Γ t entry
  unfolding Y ν H
  Y_same = rw F_same

  pub ξ_same : ξ k Γ t' entry ≡ ξ k Γ t entry
  unfolding ξ ν
  ξ_same = refl

  pub decision_same : decision k Γ t' entry ≡ decision k Γ t entry
  unfolding decision
  decision_same = rw (Y_same, ξ_same)

  v_same : v k Γ t' entry ≡ v k Γ t entry
  unfolding v
  v_same = rw decision_same

  κ_same : κ k Γ t' entry ≡ κ k Γ t entry
  unfolding κ
  κ_same = rw v_same

  pub Z_same : Z k Γ t' entry ≡ Z k Γ t entry
  unfolding Z
  Z_same = rw (v_same, Y_same, ξ_same, κ_same)

  pub θ_same : θ k Γ t' entry ≡ θ k Γ t entry
  unfolding θ
  θ_same = rw (ξ_same, κ_same)

  -- ---- steps 6 to 8

  J_same : (f : Fir) → J k Γ t' entry f ≡ J k Γ t entry f
  unfolding J
  J_same f = rw (Z_same, θ_same)

  forward_neg : new_forward k Γ t' entry ≡ negated (new_forward k Γ t entry)
  unfolding new_forward J
  forward_neg = rw (Z_same, θ_same) (adapt_neg (raise (J k Γ t entry (forward_fir k Γ t entry)) (scale_forward k)) t.forward t.samples)

  back_same : new_back k Γ t' entry ≡ new_back k Γ t entry
  unfolding new_back ν
  back_same = rw J_same

  outcome_same : outcome k Γ t' entry ≡ outcome k Γ t entry
  unfolding outcome
  outcome_same = ap₂ (outcome_of t.ψ) forward_neg back_same ∙ outcome_neg t.ψ (new_forward k Γ t entry) (new_back k Γ t entry)

  pub next_swapped : next k Γ t' entry ≡ swapped_filter_state (next k Γ t entry)
  unfolding next
  next_swapped = rw (outcome_same, forward_neg, back_same, v_same, normalised_neg)
