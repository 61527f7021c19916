-- The trace of an accepted cable is read as such: its settings, samples, gains and entries, and no block is refused but with 6.
use mathlib.Core.Path.{◌≡◌, refl, sym, ap, ◌∙◌, subst}
use mathlib.Core.Bool.{Bool, true, false, cond}
use mathlib.Core.List.{List}
use mathlib.Core.Logic.{◌⊎◌, inl, inr}
use Prim.Native.Nat.{ℕ, zero, suc, ◌+◌, ◌*◌, ◌^◌, ◌≤◌, ◌<◌}
use native.Mathlib.Omega.{arith}
use native.Mathlib.Nat.{mod-add-div, mul-le-mul_right, le_of_lt}
use lib.Dec.{leb, ltb}
use lib.ListN.{length, get_or}
use lib.IntN.{ℤ, pos, nat_abs}
use borrow.Author.Tests.{lt-ltb, le-ltb, le-leb, leb-true, eq-eqb}
use Rattle.laws.specs.Lists.{all, all_at, and_left, and_right}
use Rattle.laws.specs.Powers.{rises}
use Rattle.laws.specs.Tests.{both}
use Rattle.laws.specs.Values.{values_length, values_at, values}
use Rattle.steps.specs.Limits.{data_unit, gain_limit}
use Rattle.steps.specs.Settings.{Settings, is_symbol, is_entry}
use Rattle.steps.specs.Sound.{Within}
use Rattle.steps.proofs.SymbolLaws.{symbol_entry, entry_below}
use Rattle.trace_layout.specs.Trace.{trace_header_length, settings_in, count_in, samples_in, well_formed, trace_sample, trace_gain, trace_entry}
use Rattle.trace_layout.proofs.WriteLaws.{settings_back, count_back, trace_length_lem, samples_back, well_formed_back, sample_back, gain_back, entry_back}
use Rattle.state.specs.Sizes.{settings_number}
use Rattle.state.specs.State.{settings, fresh, refused}
use Rattle.state.specs.Answers.{SetUp, set_up_state}
use Rattle.state.specs.declared.equaliser.Equaliser.{Equaliser}
use Rattle.state.specs.declared.equaliser.Answer.{Answer}
use Rattle.state.proofs.NumberLaws.{fresh_settings}
use Rattle.state.proofs.SizesLaws.{settings_tests, fit_within, admits_admitted, step_bits}
use Rattle.state.proofs.SoundLaws.{Accepted, set_up_accepted}
use Rattle.checks.specs.Checks as Checks
use Rattle.checks.specs.Checks.{Buffers, check_number}
use Rattle.checks.specs.Calls.{Sampled}
use Rattle.checks.proofs.CheckLaws.{checks_pass}
use Rattle.station.specs.Answers.{run_number, run_state}
use Rattle.station.specs.Calls.{ψFitsBlock}
use Rattle.station.proofs.AnswerLaws.{number_is}
use Rattle.station.proofs.NumberLaws.{run_settings, run_accepted}
use Rattle.trace_text.specs.Buffers.{buffers_at}
use Rattle.trace_text.specs.Text.{text_from, trace_text}
use Rattle.trace_text.proofs.BufferLaws.{buffers_long, buffers_samples, buffers_gains, buffers_entries}
use Rattle.trace_text.proofs.TraceLaws.{state_is, accepted_text}
use Rattle.cable_trace.specs.Cable.{Cable, s, gain, has_gain, sample, entry, sample_count, block_count, cable_trace, gain_available, cable_number}
use Rattle.cable_trace.specs.Reading.{ReadsSample, Runs, Reads}
use Rattle.cable_trace.proofs.CauseLaws.{Listed, listed, cause_tests, number_tests}
use Rattle.cable_trace.proofs.GainLaws.{gain_most, sample_small}

module _ (c : Cable) (room : ℕ) (ok : cable_number c room ≡ 0) where
  settled : settings_number c.settings ≡ 0
  settled = (number_tests c room ok).0

  fitting : Listed c room
  fitting = listed c room (cause_tests c room (number_tests c room ok).1).0

  within : Within c.settings
  within = fit_within c.settings (settings_tests c.settings settled).0

  gains : (n : ℕ) → n < sample_count c → (has_gain c.settings.r (s c n) ≡ true) × (c.settings.L ≤ gain c.settings.r (s c n))
  gains n h =
      let k = c.settings in
      let t = all_at (gain_available k) (values (s c) (sample_count c)) n (pos 0) (cause_tests c room (number_tests c room ok).1).1 (omega (arith, values_length (s c) (sample_count c))) in
      let e : gain_available k (s c n) ≡ true = ap (gain_available k) (sym (values_at (s c) (pos 0) (sample_count c) n h)) ∙ t in
      (and_left (has_gain k.r (s c n)) (leb k.L (gain k.r (s c n))) e, leb-true k.L (gain k.r (s c n)) (and_right (has_gain k.r (s c n)) (leb k.L (gain k.r (s c n))) e))

  entry_is : (n : ℕ) → n < sample_count c → is_entry c.settings.r (entry c n) ≡ true
  entry_is n h = go (ltb n c.training)
    where
      go : (b : Bool) → is_entry c.settings.r (cond b (get_or c.symbols n (pos 0)) (pos 0)) ≡ true
      go true = symbol_entry c.settings.r (get_or c.symbols n (pos 0)) (all_at (is_symbol c.settings.r) c.symbols n (pos 0) fitting.symbols h)
      go false = refl

  -- ---- the header

  abbrev t : List ℕ
  t = cable_trace c

  first : Accepted (fresh c.settings)
  first = subst Accepted (ap (λ (b : Bool). cond b (fresh c.settings) refused) (eq-eqb (settings_number c.settings) 0 settled)) (set_up_accepted c.settings)

  step : c.settings.M < 2 ^ 32
  step = step_bits c.settings (admits_admitted c.settings (settings_tests c.settings settled).1)

  whole : c.settings.N * block_count c ≡ sample_count c
  whole = omega (arith, mod-add-div (sample_count c) c.settings.N, fitting.whole)

  few_blocks : block_count c < 2 ^ 16
  few_blocks = omega (arith, fitting.blocks_most)

  -- the samples and gains by their places
  abbrev m : ℕ → ℤ
  m n = sample c.settings.r (s c n)

  abbrev g : ℕ → ℕ
  g n = gain c.settings.r (s c n)

  settings_are : settings_in t ≡ c.settings
  unfolding cable_trace
  settings_are = settings_back c.settings (block_count c) m g (entry c) (sample_count c) step

  count_is : count_in t ≡ block_count c
  unfolding cable_trace
  count_is = count_back c.settings (block_count c) m g (entry c) (sample_count c) few_blocks

  samples_are : samples_in t ≡ sample_count c
  unfolding cable_trace
  samples_are = samples_back c.settings (block_count c) m g (entry c) (sample_count c) whole few_blocks step

  trace_long : length t ≡ trace_header_length + 4 * sample_count c
  unfolding cable_trace
  trace_long = trace_length_lem c.settings (block_count c) m g (entry c) (sample_count c)

  well_formed_lem : well_formed t ≡ true
  unfolding cable_trace
  well_formed_lem = well_formed_back c.settings (block_count c) m g (entry c) (sample_count c) whole few_blocks step (omega (arith, trace_long, fitting.few))

  -- ---- the samples

  chosen : (n : ℕ) {b : Bool} → ltb n c.training ≡ b → entry c n ≡ cond b (get_or c.symbols n (pos 0)) (pos 0)
  chosen n e = ap (λ (b : Bool). cond b (get_or c.symbols n (pos 0)) (pos 0)) e

  sample_is : (n : ℕ) → n < sample_count c → trace_sample t n ≡ m n
  unfolding cable_trace
  sample_is n h = sample_back c.settings (block_count c) m g (entry c) (sample_count c) n h (sample_small c.settings.r (s c n) (gains n h).0)

  gain_is : (n : ℕ) → n < sample_count c → trace_gain t n ≡ g n
  unfolding cable_trace
  gain_is n h = gain_back c.settings (block_count c) m g (entry c) (sample_count c) n h

  entry_byte : (n : ℕ) → n < sample_count c → trace_entry t n ≡ entry c n
  unfolding cable_trace
  entry_byte n h =
      let r = c.settings.r in
      entry_back c.settings (block_count c) m g (entry c) (sample_count c) n h samples_are
      (omega (arith, entry_below r (entry c n) (entry_is n h), rises {a = r + 1} {b = 4} (omega (arith, within.r_most))))

  reads_sample : (n : ℕ) → n < sample_count c → ReadsSample c t n
  reads_sample n h =
      let r = c.settings.r in
      let small = sample_small r (s c n) (gains n h).0 in
      let e_is = entry_byte n h in
      record {
        sample_is = sample_is n h;
        gain_is = gain_is n h;
        entry_is = e_is;
        entry_trained = λ l. e_is ∙ chosen n (lt-ltb n c.training l);
        entry_later = λ l. e_is ∙ chosen n (le-ltb n c.training l);
        sample_small = rw (sample_is n h) small;
        gain_least = omega (arith, gain_is n h, (gains n h).1);
        gain_most = omega (arith, gain_is n h, gain_most r (s c n));
        entry_fits = rw e_is (entry_is n h);
      }

  -- ---- the blocks

  -- a place of a block is a place of the trace
  inside : (i j : ℕ) → i < count_in t → j < (settings_in t).N → i * (settings_in t).N + j < sample_count c
  inside i j h k = omega (arith, samples_are, mul-le-mul_right (settings_in t).N h)

  module _ (e : Equaliser) (a : Accepted e) (same : settings e ≡ settings_in t) (i : ℕ) (h : i < count_in t) where
    abbrev l : Buffers
    l = buffers_at t (i * e.n)

    n_is : e.n ≡ (settings_in t).N
    n_is = ap (λ (k : Settings). k.N) same

    l_is : e.l ≡ c.settings.L
    l_is = ap (λ (k : Settings). k.L) (same ∙ settings_are)

    r_is : e.r ≡ c.settings.r
    r_is = ap (λ (k : Settings). k.r) (same ∙ settings_are)

    at : (j : ℕ) → j < (settings_in t).N → ReadsSample c t (i * e.n + j)
    at j k = reads_sample (i * e.n + j) (omega (arith, inside i j h k, ap (λ (n : ℕ). i * n) n_is))

    lengths : Checks.lengths_fit e.n l ≡ true
    lengths = subst (λ (n : ℕ). Checks.lengths_fit n l ≡ true) (sym n_is) (buffers_long t (i * e.n))

    gains_pass : all (Checks.gain_fits e.l) l.block.gains ≡ true
    gains_pass =
        buffers_gains t (i * e.n) (Checks.gain_fits e.l)
        (λ j k. both _ _ (le-leb e.l _ (omega (arith, l_is, (at j k).gain_least))) (le-leb _ gain_limit (at j k).gain_most))

    entries_pass : all (is_entry e.r) l.block.entries ≡ true
    entries_pass = buffers_entries t (i * e.n) (is_entry e.r) (λ j k. rw r_is (at j k).entry_fits)

    checked : check_number e l ≡ 0
    checked = sym (checks_pass e l a.number lengths gains_pass entries_pass)

    sampled : Sampled l.block.samples
    sampled = buffers_samples t (i * e.n) (λ (z : ℤ). nat_abs z ≤ 2 ^ data_unit) (λ j k. le_of_lt (at j k).sample_small)

  runs : (blocks i : ℕ) (e : Equaliser) → Accepted e → settings e ≡ settings_in t → i + blocks ≡ count_in t → Runs t blocks i e
  runs zero i e a same q = tt
  runs (suc blocks) i e a same q =
      let h : i < count_in t = omega (arith, q) in
      go (ψFitsBlock e (l e a same i h).block) (number_is e (l e a same i h) (checked e a same i h))
      (λ z. runs blocks (suc i) (run_state e (l e a same i h)) (run_accepted e (l e a same i h) z a.weights_long a.past_long (sampled e a same i h))
      (run_settings e (l e a same i h) ∙ same) (omega (arith, q)))
    where
      go : (b : Bool) → cond b 0 6 ≡ run_number e (buffers_at t (i * e.n)) → (run_number e (buffers_at t (i * e.n)) ≡ 0 → Runs t blocks (suc i) (run_state e (buffers_at t (i * e.n)))) →
          (run_number e (buffers_at t (i * e.n)) ≡ 6) ⊎ ((run_number e (buffers_at t (i * e.n)) ≡ 0) × Runs t blocks (suc i) (run_state e (buffers_at t (i * e.n))))
      go true z rest = inr (sym z, rest (sym z))
      go false z rest = inl (sym z)

  set_up : settings_number (settings_in t) ≡ 0
  set_up = ap settings_number settings_are ∙ settled

  text_is : trace_text t ≡ text_from t (count_in t) 0 (fresh (settings_in t))
  text_is =
      let a : Answer = record { number = settings_number (settings_in t); state = set_up_state (settings_in t) } in
      let u : SetUp (settings_in t) a = record { number = refl; state = refl } in
      sym (accepted_text t well_formed_lem a u set_up) ∙ ap (text_from t (count_in t) 0) (state_is t well_formed_lem a u set_up)

  pub reads : Reads c (cable_trace c)
  reads = record {
    well_formed_lem = well_formed_lem;
    settings_are = settings_are;
    set_up = set_up;
    count_is = count_is;
    samples_are = samples_are;
    samples = reads_sample;
    text_is = text_is;
    blocks = runs (count_in t) 0 (fresh (settings_in t)) (subst (λ (k : Settings). Accepted (fresh k)) (sym settings_are) first) (fresh_settings (settings_in t)) (omega arith);
  }
