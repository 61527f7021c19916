-- The results of a sample and the exact ones.
use mathlib.Core.Path.{◌≡◌, ap, ◌∙◌, subst}
use mathlib.Core.Bool.{true}
use mathlib.Core.List.{map}
use Prim.Native.Nat.{ℕ, ◌+◌, ◌-◌, ◌^◌, ◌≤◌, ◌<◌}
use native.Mathlib.Omega.{arith}
use lib.ListN.{length, get_or}
use lib.IntN.{ℤ, pos, nat_abs, ◌+ℤ◌, ◌-ℤ◌, ◌*ℤ◌}
use Rattle.laws.specs.Lists.{map_at}
use Rattle.laws.specs.Sums.{dot}
use Rattle.numbers.specs.Cut.{raise}
use Rattle.numbers.proofs.CutLaws.{raise_raise}
use Rattle.numbers.proofs.BitLengthLaws.{bit_length_le}
use Rattle.steps.specs.Limits.{data_unit, received_unit, mantissa_unit, exact_unit, output_raise, weight_raise}
use Rattle.steps.specs.Settings.{Settings, is_entry, scale_back}
use Rattle.steps.specs.Fir.{Fir, new_weights}
use Rattle.filter.specs.Sample.{FilterState, ν, held, F, H, Y, ξ, v, κ, Z, θ, J, forward_fir, back_fir, new_forward, new_back, outcome, next, normalised, normalised_exponent, exact_output, exact_weight, unit_exponent, Near, Bounded, Faithful}
use Rattle.filter.specs.Sound.{Fit}
use Rattle.filter.proofs.SampleForms.{ξ_form, θ_form}
use Rattle.filter.proofs.FirBounds.{FirFit}
use Rattle.filter.proofs.SampleFirs.{ν_is, ν_most, largest_bits_most, H_raised, forward_fit, back_fit, v_below}
use Rattle.filter.proofs.DistanceOutput.{output_distance, error_distance}
use Rattle.filter.proofs.OutcomeLaws.{sample_says}
use Rattle.filter.proofs.DistanceWeight.{normalised_near}
use Rattle.filter.proofs.DistanceFir.{fir_distance, step_small}

module _ (k : Settings) (Γ : ℕ) (t : FilterState) (entry : ℤ) (h : Fit k Γ t) (e : is_entry k.r entry ≡ true) (b : Bounded k Γ t entry) where
  -- what is held of a symbol, or of a sum over symbols, means the same
  held_means : (z : ℤ) → raise (raise z (data_unit - ν k Γ t entry)) (ν k Γ t entry + received_unit) ≡ raise z mantissa_unit
  held_means z = raise_raise z (data_unit - ν k Γ t entry) (ν k Γ t entry + received_unit) mantissa_unit (omega (arith, ν_most k Γ t entry h))

  held_at : (i : ℕ) → i < length t.symbols →
      raise (get_or (map (held k Γ t entry) t.symbols) i (pos 0)) (ν k Γ t entry + received_unit) ≡ raise (get_or t.symbols i (pos 0)) mantissa_unit
  held_at i l =
      ap (λ (z : ℤ). raise z (ν k Γ t entry + received_unit)) (map_at (held k Γ t entry) t.symbols i (pos 0) (pos 0) l)
      ∙ held_means (get_or t.symbols i (pos 0))

  exact_form : raise (raise (F k Γ t entry) Γ +ℤ raise (H k Γ t entry) (ν k Γ t entry + received_unit)) t.ψ ≡ exact_output Γ t
  unfolding F
  exact_form =
      ap (λ (z : ℤ). raise (raise (dot t.forward t.samples) Γ +ℤ z) t.ψ)
      (ap (λ (z : ℤ). raise z (ν k Γ t entry + received_unit)) (H_raised k Γ t entry h) ∙ held_means (dot t.back t.symbols))

  output_near : nat_abs (raise (Y k Γ t entry) (ξ k Γ t entry + output_raise) -ℤ exact_output Γ t) < 2 ^ (ξ k Γ t entry + output_raise)
  unfolding Y ξ
  output_near =
      subst (λ (z : ℤ). nat_abs (raise (Y k Γ t entry) (ξ k Γ t entry + output_raise) -ℤ z) < 2 ^ (ξ k Γ t entry + output_raise)) exact_form
      (output_distance (F k Γ t entry) (H k Γ t entry) t.ψ Γ (ν k Γ t entry))

  error_near : nat_abs (raise (Z k Γ t entry) (θ k Γ t entry + output_raise) -ℤ (raise (v k Γ t entry) exact_unit -ℤ exact_output Γ t)) < 2 ^ (θ k Γ t entry + output_raise)
  unfolding Z θ
  error_near = error_distance (v k Γ t entry) (Y k Γ t entry) (exact_output Γ t) (ξ k Γ t entry) (κ k Γ t entry) (omega (arith, b.θ_most)) output_near

  κ_within : κ k Γ t entry ≤ scale_back k + (k.r + 1)
  unfolding κ
  κ_within = omega (arith, bit_length_le (nat_abs (v k Γ t entry)) (k.r + 1) (v_below k Γ t entry h e))

  -- the new weights of a filter, kept, halved or doubled
  fir_near : {n : ℕ} (f : Fir) → FirFit k.r n f → (i : ℕ) → i < length f.weights →
      Near (unit_exponent (outcome k Γ t entry) t.ψ) (normalised_exponent (outcome k Γ t entry) t.ψ) (get_or (normalised (outcome k Γ t entry) (new_weights (J k Γ t entry f) f)) i (pos 0))
      (exact_weight k.M t.ψ (exact_output Γ t) (v k Γ t entry) (get_or f.mantissas i (pos 0)) f.exponent (get_or f.weights i (pos 0)))
  unfolding J
  fir_near f fit i l =
      normalised_near (outcome k Γ t entry) (new_forward k Γ t entry) (new_back k Γ t entry) (new_weights (J k Γ t entry f) f) i t.ψ
      (exact_weight k.M t.ψ (exact_output Γ t) (v k Γ t entry) (get_or f.mantissas i (pos 0)) f.exponent (get_or f.weights i (pos 0))) (sample_says k Γ t entry)
      (fir_distance f fit k.M t.ψ (θ k Γ t entry) (Z k Γ t entry) (v k Γ t entry) (exact_output Γ t) h.within.r_most b.θ_most error_near
      (step_small k h.within h.admitted f fit t.ψ Γ (ν k Γ t entry) (κ k Γ t entry) (ξ k Γ t entry) (θ k Γ t entry) (θ_form k Γ t entry) (ξ_form k Γ t entry)
      κ_within (omega (arith, ν_is k Γ t entry h, largest_bits_most k Γ t entry h)) h.Γ_most)
      i l)

  -- the output is less than one of its units off, each new weight at most 1 + 1/1024 units
  pub faithful : Faithful k Γ t entry
  unfolding next new_forward new_back
  faithful = record {
    output_near = output_near;
    forward_near = λ i l. fir_near (forward_fir k Γ t entry) (forward_fit k Γ t entry h) i (omega (arith, h.forward_long));
    back_near = λ i l.
        subst (λ (d : ℤ). Near (unit_exponent (outcome k Γ t entry) t.ψ) (normalised_exponent (outcome k Γ t entry) t.ψ) (get_or (normalised (outcome k Γ t entry) (new_back k Γ t entry)) i (pos 0))
        (raise (get_or t.back i (pos 0)) (weight_raise + t.ψ) +ℤ pos k.M *ℤ d *ℤ (raise (v k Γ t entry) exact_unit -ℤ exact_output Γ t)))
        (held_at i (omega (arith, h.back_long, h.symbols_long))) (fir_near (back_fir k Γ t entry) (back_fit k Γ t entry h) i (omega (arith, h.back_long)));
  }
