-- The bounds at a sample: in a sound state its numbers keep them.
use mathlib.Core.Path.{◌≡◌, refl, ap}
use mathlib.Core.Bool.{true}
use Prim.Native.Nat.{ℕ, ◌+◌, ◌*◌, ◌-◌, ◌^◌, ◌≤◌, ◌<◌}
use native.Mathlib.Omega.{arith}
use lib.IntN.{ℤ, nat_abs}
use Rattle.laws.specs.Powers.{split, positive}
use Rattle.laws.specs.Sums.{Each}
use Rattle.steps.specs.Limits.{weight_unit, data_unit, output_unit, step_unit, received_unit, output_exponent_limit}
use Rattle.steps.specs.Sound.{factor_shift_least, Summable, Adaptable}
use Rattle.steps.specs.Settings.{Settings, scale_forward, scale_back, is_entry}
use Rattle.steps.specs.Fir.{Small, Fir}
use Rattle.filter.specs.Sample.{FilterState, ν, F, H, Y, ξ, v, κ, Z, θ, J, forward_fir, back_fir, new_forward, new_back, outcome, next, Bounded}
use Rattle.filter.specs.Sound.{Fit}
use Rattle.steps.proofs.Admission.{AtMostError}
use Rattle.filter.proofs.FirBounds.{FirFit, sum_small, sum_raised, summable, adaptable, new_weights_small, shift_least, shift_most}
use Rattle.filter.proofs.OutcomeLaws.{sample_says, normalised_small}
use Rattle.filter.proofs.ErrorSize.{output_small, output_scaled, error_small, error_scaled}
use Rattle.filter.proofs.StepAdmission.{error_weighed, factor_small}
use Rattle.filter.proofs.SampleFirs as Firs

module _ (k : Settings) (Γ : ℕ) (t : FilterState) (entry : ℤ) (h : Fit k Γ t) where
  -- ---- steps 2 and 3

  pub F_small : nat_abs (F k Γ t entry) < 2 ^ (output_unit - 2)
  unfolding F
  F_small = sum_small (forward_fir k Γ t entry) (Firs.forward_fit k Γ t entry h)

  pub H_small : nat_abs (H k Γ t entry) < 2 ^ (output_unit - 2)
  unfolding H
  H_small = sum_small (back_fir k Γ t entry) (Firs.back_fit k Γ t entry h)

  pub Y_small : nat_abs (Y k Γ t entry) < 2 ^ (output_unit - 1)
  unfolding Y
  Y_small = omega (arith, output_small (F k Γ t entry) (H k Γ t entry) Γ (ν k Γ t entry), F_small, H_small)

  Y_scaled : nat_abs (Y k Γ t entry) * 2 ^ (ξ k Γ t entry + received_unit) ≤ 2 ^ t.ψ * (nat_abs (F k Γ t entry) * 2 ^ Γ + nat_abs (H k Γ t entry) * 2 ^ (ν k Γ t entry + received_unit))
  unfolding Y ξ
  Y_scaled = output_scaled (F k Γ t entry) (H k Γ t entry) t.ψ Γ (ν k Γ t entry)

  F_weighed : nat_abs (F k Γ t entry) * 2 ^ Γ * 2 ^ k.L ≤ k.p * (2 ^ k.r * 2 ^ (output_unit + received_unit))
  unfolding F
  F_weighed = omega (
    arith,
    sum_raised (forward_fir k Γ t entry) (Firs.forward_fit k Γ t entry h) (Γ + k.L) h.Γ_most,
    ap (λ (n : ℕ). nat_abs (F k Γ t entry) * n) (split (Γ + k.L) Γ k.L refl),
  )

  H_weighed : nat_abs (H k Γ t entry) * 2 ^ (ν k Γ t entry + received_unit) ≤ k.q * (2 ^ k.r * 2 ^ (output_unit + received_unit))
  unfolding H
  H_weighed = sum_raised (back_fir k Γ t entry) (Firs.back_fit k Γ t entry h) (ν k Γ t entry + received_unit) (Firs.back_fit k Γ t entry h).exponent_most

  pub forward_summable : Summable t.forward t.samples
  forward_summable = summable (forward_fir k Γ t entry) (Firs.forward_fit k Γ t entry h)

  pub back_summable : Summable t.back t.symbols
  back_summable = summable (Firs.symbol_fir k Γ t entry) (Firs.symbol_fit k Γ t entry h)

  module _ (e : is_entry k.r entry ≡ true) where
    -- ---- step 5

    θ_within : θ k Γ t entry ≤ output_exponent_limit
    θ_within = omega (arith, Firs.θ_most k Γ t entry h e, h.ψ_most)

    pub Z_small : nat_abs (Z k Γ t entry) < 2 ^ output_unit
    unfolding Z θ κ
    Z_small = error_small (v k Γ t entry) (Y k Γ t entry) (ξ k Γ t entry) (scale_back k) (Firs.scale_back_least k Γ t entry h) (omega (arith, θ_within)) Y_small

    Z_scaled : nat_abs (Z k Γ t entry) * 2 ^ θ k Γ t entry ≤ nat_abs (v k Γ t entry) * 2 ^ output_unit + nat_abs (Y k Γ t entry) * 2 ^ ξ k Γ t entry
    unfolding Z θ
    Z_scaled = error_scaled (v k Γ t entry) (Y k Γ t entry) (ξ k Γ t entry) (κ k Γ t entry) (omega (arith, θ_within))

    -- |Z| as the step admission weighs it
    Z_weighed : AtMostError k t.ψ (θ k Γ t entry) (nat_abs (Z k Γ t entry))
    Z_weighed =
        error_weighed (nat_abs (Z k Γ t entry)) (2 ^ θ k Γ t entry) (nat_abs (v k Γ t entry)) (nat_abs (Y k Γ t entry)) (2 ^ ξ k Γ t entry) (2 ^ t.ψ)
        (nat_abs (F k Γ t entry) * 2 ^ Γ) (nat_abs (H k Γ t entry) * 2 ^ (ν k Γ t entry + received_unit)) (2 ^ k.L) k.p k.q (2 ^ k.r)
        Z_scaled
        (omega (arith, Y_scaled, ap (λ (n : ℕ). nat_abs (Y k Γ t entry) * n) (split (ξ k Γ t entry + received_unit) (ξ k Γ t entry) received_unit refl)))
        F_weighed H_weighed
        (omega (arith, Firs.v_below k Γ t entry h e, split (k.r + 1) k.r 1 refl))
        (positive t.ψ)

    -- ---- step 6

    -- M-as-Z is cut by so many bits or more
    pub shift : {n : ℕ} (f : Fir) → FirFit k.r n f → f.exponent + θ k Γ t entry + factor_shift_least ≤ step_unit + received_unit + t.ψ + f.scale
    shift f s = shift_least f s t.ψ (θ k Γ t entry) h.within.r_most (Firs.θ_most k Γ t entry h e)

    -- and by step_unit + received_unit or fewer
    pub shift_below : {n : ℕ} (f : Fir) → FirFit k.r n f → step_unit + received_unit + t.ψ + f.scale ≤ f.exponent + θ k Γ t entry + (step_unit + received_unit)
    shift_below f s = shift_most f s t.ψ (θ k Γ t entry) (Firs.θ_above k Γ t entry h)

    pub J_small : {n : ℕ} (f : Fir) → FirFit k.r n f → nat_abs (J k Γ t entry f) ≤ 2 ^ (output_unit - 1)
    unfolding J
    J_small f s =
        factor_small k f (Z k Γ t entry) t.ψ (θ k Γ t entry) h.admitted s.exponent_most
        (omega (arith, shift f s)) Z_weighed

    J_forward : nat_abs (J k Γ t entry (forward_fir k Γ t entry)) ≤ 2 ^ (output_unit - 1)
    J_forward = J_small (forward_fir k Γ t entry) (Firs.forward_fit k Γ t entry h)

    J_back : nat_abs (J k Γ t entry (back_fir k Γ t entry)) ≤ 2 ^ (output_unit - 1)
    J_back = J_small (back_fir k Γ t entry) (Firs.back_fit k Γ t entry h)

    pub forward_adaptable : Adaptable (J k Γ t entry (forward_fir k Γ t entry)) (data_unit - scale_forward k) t.forward t.samples
    forward_adaptable =
        adaptable (forward_fir k Γ t entry) (Firs.forward_fit k Γ t entry h) (J k Γ t entry (forward_fir k Γ t entry)) J_forward
        (omega (arith, Firs.scale_forward_most k Γ t entry h))

    pub back_adaptable : Adaptable (J k Γ t entry (back_fir k Γ t entry)) (data_unit - (scale_back k + (data_unit - ν k Γ t entry))) t.back t.symbols
    back_adaptable =
        adaptable (Firs.symbol_fir k Γ t entry) (Firs.symbol_fit k Γ t entry h) (J k Γ t entry (back_fir k Γ t entry)) J_back
        (Firs.symbol_scale_most k Γ t entry h)

    -- ---- step 7

    new_forward_small : Each (λ (w : ℤ). nat_abs w < 2 ^ weight_unit) (new_forward k Γ t entry)
    unfolding new_forward
    new_forward_small = new_weights_small (forward_fir k Γ t entry) (Firs.forward_fit k Γ t entry h) (J k Γ t entry (forward_fir k Γ t entry)) J_forward

    new_back_small : Each (λ (w : ℤ). nat_abs w < 2 ^ weight_unit) (new_back k Γ t entry)
    unfolding new_back
    new_back_small = new_weights_small (back_fir k Γ t entry) (Firs.back_fit k Γ t entry h) (J k Γ t entry (back_fir k Γ t entry)) J_back

    next_small : Each Small (next k Γ t entry).forward × Each Small (next k Γ t entry).back
    unfolding next
    next_small = normalised_small (outcome k Γ t entry) t.ψ (new_forward k Γ t entry) (new_back k Γ t entry)
        (sample_says k Γ t entry) new_forward_small new_back_small

-- ---- the theorem

pub bounded : (k : Settings) (Γ : ℕ) (t : FilterState) (entry : ℤ) → Fit k Γ t → is_entry k.r entry ≡ true → Bounded k Γ t entry
bounded k Γ t entry h e = record {
  F_small = F_small k Γ t entry h;
  H_small = H_small k Γ t entry h;
  Y_small = Y_small k Γ t entry h;
  Z_small = Z_small k Γ t entry h e;
  ξ_least = Firs.ξ_least k Γ t entry h;
  ξ_most = omega (arith, Firs.ξ_most k Γ t entry h, h.ψ_most);
  θ_least = Firs.θ_least k Γ t entry h e;
  θ_most = θ_within k Γ t entry h e;
  ν_most = omega (arith, Firs.ν_most k Γ t entry h);
  forward_shift = omega (arith, shift k Γ t entry h e (forward_fir k Γ t entry) (Firs.forward_fit k Γ t entry h));
  back_shift = omega (arith, shift k Γ t entry h e (back_fir k Γ t entry) (Firs.back_fit k Γ t entry h));
  new_forward_lem = new_forward_small k Γ t entry h e;
  new_back_lem = new_back_small k Γ t entry h e;
  next_forward = (next_small k Γ t entry h e).0;
  next_back = (next_small k Γ t entry h e).1;
}
