-- What a sample leaves, part by part.
use mathlib.Core.Path.{◌≡◌, refl, ap, ◌∙◌}
use mathlib.Core.Bool.{true}
use Prim.Native.Nat.{ℕ, ◌≤◌}
use lib.ListN.{length}
use lib.IntN.{ℤ}
use Rattle.steps.specs.Limits.{exponent_limit}
use Rattle.steps.specs.Settings.{Settings, is_entry}
use Rattle.steps.specs.Fir.{push}
use Rattle.steps.proofs.FirLaws.{adapt_length, push_length, push_each}
use Rattle.steps.proofs.SymbolLaws.{symbol_entry}
use Rattle.filter.specs.Sample.{FilterState, v, outcome, normalised, normalised_exponent, new_forward, new_back, next}
use Rattle.filter.specs.Sound.{Fit}
use Rattle.filter.proofs.SampleFirs.{v_symbol}
use Rattle.filter.proofs.SampleBounds.{bounded}
use Rattle.filter.proofs.OutcomeLaws.{normalised_length}

module _ (k : Settings) (Γ : ℕ) (t : FilterState) (entry : ℤ) where
  pub next_forward : (next k Γ t entry).forward ≡ normalised (outcome k Γ t entry) (new_forward k Γ t entry)
  unfolding next
  next_forward = refl

  pub next_back : (next k Γ t entry).back ≡ normalised (outcome k Γ t entry) (new_back k Γ t entry)
  unfolding next
  next_back = refl

  pub next_samples : (next k Γ t entry).samples ≡ t.samples
  unfolding next
  next_samples = refl

  pub next_symbols : (next k Γ t entry).symbols ≡ push (v k Γ t entry) t.symbols
  unfolding next
  next_symbols = refl

  pub next_ψ : (next k Γ t entry).ψ ≡ normalised_exponent (outcome k Γ t entry) t.ψ
  unfolding next
  next_ψ = refl

  -- ---- each list is as long as it was

  pub next_forward_length : length (next k Γ t entry).forward ≡ length t.forward
  unfolding new_forward
  next_forward_length = ap length next_forward ∙ normalised_length (outcome k Γ t entry) (new_forward k Γ t entry) ∙ adapt_length _ t.forward _

  pub next_back_length : length (next k Γ t entry).back ≡ length t.back
  unfolding new_back
  next_back_length = ap length next_back ∙ normalised_length (outcome k Γ t entry) (new_back k Γ t entry) ∙ adapt_length _ t.back _

  pub next_symbols_length : length (next k Γ t entry).symbols ≡ length t.symbols
  next_symbols_length = ap length next_symbols ∙ push_length (v k Γ t entry) t.symbols

  -- ---- it is sound while ψ keeps its limit

  pub next_fit : Fit k Γ t → is_entry k.r entry ≡ true → (next k Γ t entry).ψ ≤ exponent_limit → Fit k Γ (next k Γ t entry)
  next_fit f h l = record {
    within = f.within;
    admitted = f.admitted;
    forward_long = next_forward_length ∙ f.forward_long;
    back_long = next_back_length ∙ f.back_long;
    samples_long = ap length next_samples ∙ f.samples_long;
    symbols_long = next_symbols_length ∙ f.symbols_long;
    forward_small = (bounded k Γ t entry f h).next_forward;
    back_small = (bounded k Γ t entry f h).next_back;
    samples_small = rw next_samples f.samples_small;
    symbols_are =
        rw next_symbols
        (push_each (λ (z : ℤ). is_entry k.r z ≡ true) (v k Γ t entry) t.symbols (symbol_entry k.r (v k Γ t entry) (v_symbol k Γ t entry f h)) f.symbols_are);
    ψ_most = l;
    Γ_least = f.Γ_least;
    Γ_most = f.Γ_most;
  }
