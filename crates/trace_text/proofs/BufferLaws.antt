-- The lists that a block of a trace is lent: they are N long, and each number stands in the trace.
use mathlib.Core.Path.{◌≡◌}
use mathlib.Core.Bool.{Bool, true}
use mathlib.Core.List.{List}
use Prim.Native.Nat.{ℕ, ◌+◌, ◌<◌}
use lib.ListN.{length-replicate}
use lib.IntN.{ℤ, pos}
use borrow.Author.Tests.{eq-eqb}
use Rattle.laws.specs.Lists.{all}
use Rattle.laws.specs.Sums.{Each}
use Rattle.laws.specs.Values.{values_length, values_each, values_tested}
use Rattle.trace_layout.specs.Trace.{settings_in, trace_sample, trace_gain, trace_entry}
use Rattle.checks.specs.Checks.{lengths_fit}
use Rattle.trace_text.specs.Buffers.{buffers_with, buffers_at}

module _ (t : List ℕ) (first : ℕ) where
  pub buffers_long : lengths_fit (settings_in t).N (buffers_at t first) ≡ true
  unfolding buffers_with
  buffers_long =
      let N = (settings_in t).N in
      simp (
        eq-eqb _ N (values_length (λ j. trace_sample t (first + j)) N),
        eq-eqb _ N (values_length (λ j. trace_gain t (first + j)) N),
        eq-eqb _ N (values_length (λ j. trace_entry t (first + j)) N),
        eq-eqb _ N (length-replicate {A = ℤ} N (pos 0)),
        eq-eqb _ N (length-replicate {A = ℕ} N 0),
      )

  pub buffers_samples : (P : ℤ → Type 0) → ((j : ℕ) → j < (settings_in t).N → P (trace_sample t (first + j))) → Each P (buffers_at t first).block.samples
  unfolding buffers_with
  buffers_samples P h = values_each (pos 0) P (λ j. trace_sample t (first + j)) (settings_in t).N h

  pub buffers_gains : (p : ℕ → Bool) → ((j : ℕ) → j < (settings_in t).N → p (trace_gain t (first + j)) ≡ true) → all p (buffers_at t first).block.gains ≡ true
  unfolding buffers_with
  buffers_gains p h = values_tested 0 p (λ j. trace_gain t (first + j)) (settings_in t).N h

  pub buffers_entries : (p : ℤ → Bool) → ((j : ℕ) → j < (settings_in t).N → p (trace_entry t (first + j)) ≡ true) → all p (buffers_at t first).block.entries ≡ true
  unfolding buffers_with
  buffers_entries p h = values_tested (pos 0) p (λ j. trace_entry t (first + j)) (settings_in t).N h
