-- A block on a sound state: every sample of it is fit, and what it leaves is sound.
use mathlib.Core.Path.{◌≡◌, ◌∙◌}
use mathlib.Core.Bool.{true}
use mathlib.Core.List.{[], ◌∷◌}
use Prim.Native.Nat.{ℕ, zero, suc, ◌-◌, ◌≤◌, ◌<◌}
use native.Mathlib.Omega.{arith}
use native.Mathlib.Nat.{le_refl}
use lib.ListN.{length, get_or}
use lib.IntN.{ℤ, pos}
use borrow.Author.Tests.{leb-true}
use Rattle.laws.specs.Lists.{and_left, and_right}
use Rattle.laws.specs.Sums.{Each, each_at, each_of, each_append}
use Rattle.steps.specs.Settings.{Settings, is_entry}
use Rattle.filter.specs.Sample.{FilterState}
use Rattle.block.specs.Block.{Block, Memory, newb, new_b, Γ, stored, old, start, entered, after, at, ψFits, next_memory}
use Rattle.filter.specs.Sound.{Fit}
use Rattle.block.specs.Sound.{Sound, Acceptable}
use Rattle.steps.proofs.FirLaws.{push_length, push_each}
use Rattle.filter.proofs.NextLaws.{next_fit}
use Rattle.block.proofs.BlockExponents.{newb_new_b, new_b_most, Γ_least, Γ_most}
use Rattle.block.proofs.BlockStored.{StateBound, SampleBound, stored_sound, stored_small, old_small, stored_length}
use Rattle.block.proofs.BlockWindow.{after_length, next_memory_length, next_memory_at}

-- ---- before the first sample, and with a sample entered

fit_start : (k : Settings) (o : Memory) (i : Block) → Sound k o → Acceptable k i → Fit k (Γ k o i) (start k o i)
unfolding start after
fit_start k o i s a = record {
  within = s.within;
  admitted = s.admitted;
  forward_long = s.forward_long;
  back_long = s.back_long;
  samples_long = after_length k o i s.within.p_least s.samples_long 0;
  symbols_long = s.symbols_long;
  forward_small = s.forward_small;
  back_small = s.back_small;
  samples_small = each_append (SampleBound k) (old k o i) (pos 0 ∷ []) (old_small k o i s) (omega arith, tt);
  symbols_are = s.symbols_are;
  ψ_most = s.ψ_most;
  Γ_least = Γ_least k o i;
  Γ_most = Γ_most k o i s a;
}

fit_entered : (k : Settings) (o : Memory) (i : Block) (n : ℕ) (t : FilterState) → Acceptable k i → n < k.N → Fit k (Γ k o i) t → Fit k (Γ k o i) (entered k o i n t)
fit_entered k o i n t a h f = record {
  within = f.within;
  admitted = f.admitted;
  forward_long = f.forward_long;
  back_long = f.back_long;
  samples_long = push_length (get_or (stored k o i) n (pos 0)) t.samples ∙ f.samples_long;
  symbols_long = f.symbols_long;
  forward_small = f.forward_small;
  back_small = f.back_small;
  samples_small = push_each (SampleBound k) (get_or (stored k o i) n (pos 0)) t.samples
      (each_at (SampleBound k) (stored k o i) n (pos 0) (stored_small k o i) (omega (arith, stored_length k o i a))) f.samples_small;
  symbols_are = f.symbols_are;
  ψ_most = f.ψ_most;
  Γ_least = f.Γ_least;
  Γ_most = f.Γ_most;
}

-- the p − 1 samples that are left are all of this block
next_memory_samples : (k : Settings) (o : Memory) (i : Block) → Sound k o → Acceptable k i →
    Each (StateBound k (newb k o i) (new_b k o i)) (next_memory k o i).samples
next_memory_samples k o i s a = each_of (StateBound k (newb k o i) (new_b k o i)) (pos 0) (next_memory k o i).samples each
  where
    each : (j : ℕ) → j < length (next_memory k o i).samples → StateBound k (newb k o i) (new_b k o i) (get_or (next_memory k o i).samples j (pos 0))
    each j h =
        let l = next_memory_length k o i s.within.p_least s.samples_long in
        rw (next_memory_at k o i s.within.p_least s.samples_long j (k.N - 1 - j) (omega arith) (omega arith))
        (each_at (StateBound k (newb k o i) (new_b k o i)) (stored k o i) (k.N - 1 - j) (pos 0) (stored_sound k o i)
        (omega (arith, stored_length k o i a)))

module _ (k : Settings) (o : Memory) (i : Block) (s : Sound k o) (a : Acceptable k i) where
  -- when n samples are done
  pub fit_after : (n : ℕ) → n ≤ k.N → ψFits k o i n ≡ true → Fit k (Γ k o i) (after k o i n)
  unfolding after ψFits
  fit_after zero h e = fit_start k o i s a
  fit_after (suc n) h e =
      next_fit k (Γ k o i) (entered k o i n (after k o i n)) (get_or i.entries n (pos 0))
      (fit_entered k o i n (after k o i n) a h (fit_after n (omega arith) (and_left (ψFits k o i n) _ e)))
      (each_at (λ (z : ℤ). is_entry k.r z ≡ true) i.entries n (pos 0) a.entries_are (omega (arith, a.entries_long)))
      (leb-true _ _ (and_right (ψFits k o i n) _ e))

  -- at every sample that is reached
  pub fit_at : (n : ℕ) → n < k.N → ψFits k o i n ≡ true → Fit k (Γ k o i) (at k o i n)
  unfolding at
  fit_at n h e = fit_entered k o i n (after k o i n) a h (fit_after n (omega arith) e)

  -- what an accepted block leaves
  pub next_memory_sound : ψFits k o i k.N ≡ true → Sound k (next_memory k o i)
  unfolding next_memory
  next_memory_sound e =
      let f = fit_after k.N (le_refl k.N) e in
      record {
        within = s.within;
        admitted = s.admitted;
        forward_long = f.forward_long;
        back_long = f.back_long;
        samples_long = next_memory_length k o i s.within.p_least s.samples_long;
        symbols_long = f.symbols_long;
        forward_small = f.forward_small;
        back_small = f.back_small;
        samples_small = next_memory_samples k o i s a;
        symbols_are = f.symbols_are;
        ψ_most = f.ψ_most;
        b_most = newb_new_b k o i;
        B_most = new_b_most k o i s a;
      }
