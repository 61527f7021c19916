-- The trace of an accepted cable, as the trace program reads it.
use Rattle.std.specs.Prelude.{◌≡◌, true, List, ◌⊎◌, ℕ, zero, suc, ◌*◌, ◌^◌, ◌≤◌, ◌<◌, get_or, pos, nat_abs}
use Rattle.steps.specs.Limits.{data_unit, gain_limit}
use Rattle.steps.specs.Settings.{is_entry}
use Rattle.trace_layout.specs.Trace.{settings_in, count_in, samples_in, well_formed, trace_sample, trace_gain, trace_entry}
use Rattle.state.specs.Sizes.{settings_number}
use Rattle.state.specs.State.{fresh}
use Rattle.state.specs.declared.equaliser.Equaliser.{Equaliser}
use Rattle.station.specs.Answers.{run_number, run_state}
use Rattle.trace_text.specs.Buffers.{buffers_at}
use Rattle.trace_text.specs.Text.{text_from, trace_text}
use Rattle.cable_trace.specs.Cable.{Cable, s, gain, sample, entry, sample_count, block_count}

-- sample n of the trace: those that were computed, within what the checks 4 and 5 ask
pub record ReadsSample (c : Cable) (t : List ℕ) (n : ℕ) : Type 0 where
  pub sample_is : trace_sample t n ≡ sample c.settings.r (s c n)
  pub gain_is : trace_gain t n ≡ gain c.settings.r (s c n)
  pub entry_is : trace_entry t n ≡ entry c n
  -- the first symbols, and 0 after them
  pub entry_trained : n < c.training → trace_entry t n ≡ get_or c.symbols n (pos 0)
  pub entry_later : c.training ≤ n → trace_entry t n ≡ pos 0
  -- |m| < 2^15
  pub sample_small : nat_abs (trace_sample t n) < 2 ^ data_unit
  pub gain_least : c.settings.L ≤ trace_gain t n
  pub gain_most : trace_gain t n ≤ gain_limit
  pub entry_fits : is_entry c.settings.r (trace_entry t n) ≡ true

-- the last blocks, from the block i on: each is accepted, up to one that is refused with 6 if there is any
abbrev pub Runs : List ℕ → ℕ → ℕ → Equaliser → Type 0
Runs t zero i e = Unit
Runs t (suc blocks) i e =
    let l = buffers_at t (i * e.n) in
    (run_number e l ≡ 6) ⊎ ((run_number e l ≡ 0) × Runs t blocks (suc i) (run_state e l))

-- a well-formed trace with these settings and samples. Its text is that of its blocks, so it does not stop with 8, 1 or 2, and no block with 3, 4, 5 or 9
pub record Reads (c : Cable) (t : List ℕ) : Type 0 where
  pub well_formed_lem : well_formed t ≡ true
  pub settings_are : settings_in t ≡ c.settings
  pub set_up : settings_number (settings_in t) ≡ 0
  pub count_is : count_in t ≡ block_count c
  pub samples_are : samples_in t ≡ sample_count c
  pub samples : (n : ℕ) → n < sample_count c → ReadsSample c t n
  pub text_is : trace_text t ≡ text_from t (count_in t) 0 (fresh (settings_in t))
  pub blocks : Runs t (count_in t) 0 (fresh (settings_in t))
