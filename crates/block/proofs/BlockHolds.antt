-- Demand 3 at every sample of an accepted block.
use mathlib.Core.Path.{◌≡◌, ◌∙◌}
use mathlib.Core.Bool.{true}
use Prim.Native.Nat.{ℕ, suc, ◌<◌}
use native.Mathlib.Omega.{arith}
use lib.ListN.{length, get_or}
use lib.IntN.{ℤ, pos}
use Rattle.laws.specs.Sums.{each_at}
use Rattle.laws.specs.Values.{values_at}
use Rattle.steps.specs.Settings.{Settings, is_entry}
use Rattle.block.specs.Block.{Block, Memory, Γ, after, at, ψFits, entry_at, block_outputs, AtSample}
use Rattle.filter.specs.Sound.{Fit}
use Rattle.block.specs.Sound.{Sound, Acceptable}
use Rattle.filter.specs.Sample.{Y, ξ, decision, Z, θ, Bounded, Faithful}
use Rattle.filter.proofs.SampleBounds as S
use Rattle.filter.proofs.Distance as D
use Rattle.filter.proofs.NextLaws.{next_forward_length, next_back_length}
use Rattle.filter.proofs.SampleSteps.{normalised_once, frozen}
use Rattle.block.proofs.BlockCount.{ψ_fits_before}
use Rattle.block.proofs.BlockSound.{fit_at}

-- what a block hands out at sample n is what the sample's steps give
module _ (k : Settings) (o : Memory) (i : Block) (n : ℕ) where
  pub record OutputAt : Type 0 where
    pub Y_is : get_or (block_outputs k o i).y n (pos 0) ≡ Y k (Γ k o i) (at k o i n) (entry_at k o i n)
    pub ξ_is : get_or (block_outputs k o i).xi n 0 ≡ ξ k (Γ k o i) (at k o i n) (entry_at k o i n)
    pub decision_is : get_or (block_outputs k o i).decision n (pos 0) ≡ decision k (Γ k o i) (at k o i n) (entry_at k o i n)
    pub Z_is : get_or (block_outputs k o i).z n (pos 0) ≡ Z k (Γ k o i) (at k o i n) (entry_at k o i n)
    pub θ_is : get_or (block_outputs k o i).theta n 0 ≡ θ k (Γ k o i) (at k o i n) (entry_at k o i n)

  pub output_at : n < k.N → OutputAt
  unfolding block_outputs
  output_at h = record {
    Y_is = values_at _ (pos 0) k.N n h;
    ξ_is = values_at _ 0 k.N n h;
    decision_is = values_at _ (pos 0) k.N n h;
    Z_is = values_at _ (pos 0) k.N n h;
    θ_is = values_at _ 0 k.N n h;
  }

module _ (k : Settings) (o : Memory) (i : Block) (s : Sound k o) (a : Acceptable k i) (e : ψFits k o i k.N ≡ true) (n : ℕ) (h : n < k.N) where
  pub entry_is : is_entry k.r (entry_at k o i n) ≡ true
  entry_is = each_at (λ (v : ℤ). is_entry k.r v ≡ true) i.entries n (pos 0) a.entries_are (omega (arith, a.entries_long))

  pub fit : Fit k (Γ k o i) (at k o i n)
  fit = fit_at k o i s a n h (ψ_fits_before k o i n k.N (omega arith) e)

  pub bounded_at : Bounded k (Γ k o i) (at k o i n) (entry_at k o i n)
  bounded_at = S.bounded k (Γ k o i) (at k o i n) (entry_at k o i n) fit entry_is

  pub faithful_at : Faithful k (Γ k o i) (at k o i n) (entry_at k o i n)
  faithful_at = D.faithful k (Γ k o i) (at k o i n) (entry_at k o i n) fit entry_is bounded_at

  next_forward_long : length (after k o i (suc n)).forward ≡ k.p
  unfolding after at
  next_forward_long = next_forward_length k (Γ k o i) (at k o i n) (entry_at k o i n) ∙ fit.forward_long

  next_back_long : length (after k o i (suc n)).back ≡ k.q
  unfolding after at
  next_back_long = next_back_length k (Γ k o i) (at k o i n) (entry_at k o i n) ∙ fit.back_long

  pub at_sample : AtSample k o i n
  at_sample = record {
    forward_long = fit.forward_long;
    samples_long = fit.samples_long;
    back_long = fit.back_long;
    symbols_long = fit.symbols_long;
    next_forward_long = next_forward_long;
    next_back_long = next_back_long;
    forward_before = fit.forward_small;
    back_before = fit.back_small;
    bounded = bounded_at;
    normalised_once = normalised_once k (Γ k o i) (at k o i n) (entry_at k o i n);
    faithful = faithful_at;
    frozen = λ m. frozen k (Γ k o i) (at k o i n) (entry_at k o i n) m fit.forward_small fit.back_small;
  }
