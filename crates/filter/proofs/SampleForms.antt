-- ξ and θ of a sample in one form each, whichever exponent is the larger.
use mathlib.Core.Path.{◌≡◌}
use Prim.Native.Nat.{ℕ, ◌+◌, max}
use lib.IntN.{ℤ}
use Rattle.steps.specs.Limits.{received_unit}
use Rattle.steps.specs.Settings.{Settings}
use Rattle.steps.proofs.OutputLaws.{output_exponent_form, error_exponent_form}
use Rattle.filter.specs.Sample.{FilterState, ν, ξ, κ, θ}

module _ (k : Settings) (Γ : ℕ) (t : FilterState) (entry : ℤ) where
  pub ξ_form : ξ k Γ t entry + received_unit ≡ t.ψ + max Γ (ν k Γ t entry + received_unit)
  unfolding ξ
  ξ_form = output_exponent_form t.ψ Γ (ν k Γ t entry)

  pub θ_form : θ k Γ t entry ≡ max (κ k Γ t entry) (ξ k Γ t entry)
  unfolding θ
  θ_form = error_exponent_form (ξ k Γ t entry) (κ k Γ t entry)
