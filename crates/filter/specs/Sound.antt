-- What is sound at a sample.
use Rattle.std.specs.Prelude.{◌≡◌, true, ℕ, ◌+◌, ◌*◌, ◌^◌, ◌≤◌, ◌<◌, length, ℤ, nat_abs}
use Rattle.laws.specs.Sums.{Each}
use Rattle.steps.specs.Limits.{data_unit, exponent_limit, length_limit}
use Rattle.steps.specs.Settings.{Settings, is_entry, scale_forward}
use Rattle.steps.specs.Sound.{Within, Admitted}
use Rattle.steps.specs.Fir.{Small}
use Rattle.filter.specs.Sample.{FilterState}

-- the soundness facts at a sample, with the exponent Γ = γ + received_unit of the stored samples
pub record Fit (k : Settings) (Γ : ℕ) (t : FilterState) : Type 0 where
  pub within : Within k
  pub admitted : Admitted k
  pub forward_long : length t.forward ≡ k.p
  pub back_long : length t.back ≡ k.q
  pub samples_long : length t.samples ≡ k.p
  pub symbols_long : length t.symbols ≡ k.q
  pub forward_small : Each Small t.forward
  pub back_small : Each Small t.back
  pub samples_small : Each (λ (a : ℤ). nat_abs a * 2 ^ scale_forward k < 2 ^ data_unit) t.samples
  pub symbols_are : Each (λ (v : ℤ). is_entry k.r v ≡ true) t.symbols
  pub ψ_most : t.ψ ≤ exponent_limit
  pub Γ_least : scale_forward k ≤ Γ
  pub Γ_most : Γ + k.L ≤ k.r + length_limit + scale_forward k
