-- The run of a block, sample by sample: what holds when n samples are done.
use mathlib.Core.Path.{◌≡◌, refl, sym, ap, ap₂, ◌∙◌, subst}
use mathlib.Core.Bool.{true}
use mathlib.Core.List.{List, ◌∷◌}
use Prim.Native.Nat.{ℕ, suc, ◌+◌, ◌*◌, ◌-◌, ◌^◌, ◌≤◌, ◌<◌}
use native.Mathlib.Omega.{arith}
use native.Mathlib.Nat.{le_antisymm, mul-le-mul}
use native.Mathlib.Numerals.{add-one}
use lib.ListN.{length, get_or, drop, set, length-take}
use lib.IntN.{ℤ, pos}
use lib.Signed.{mag}
use mir.Syntax.{w8, w32, w64}
use mir.Val.{hbits, to_z, of_z, Fits}
use borrow.Author.Tests.{le-leb}
use Rattle.laws.specs.Loops.{Written, written_none, written_next}
use Rattle.laws.specs.Machine.{kept}
use Rattle.laws.specs.Sums.{each_at}
use Rattle.laws.specs.Values.{values_length, values_at}
use Rattle.steps.specs.Limits.{tap_limit, block_limit, symbol_limit, exponent_limit}
use Rattle.steps.specs.Sound.{line_length}
use Rattle.steps.specs.Settings.{Settings, is_entry}
use Rattle.filter.specs.Sample.{FilterState}
use Rattle.filter.specs.Sound.{Fit}
use Rattle.filter.specs.Calls.{LargestBitsAt, next_delay, SampleResultIs, filter_state_of}
use Rattle.filter.specs.declared.sample.SampleResult.{SampleResult}
use Rattle.block.specs.Block.{Block, Memory, Outputs, newb, new_b, Γ, after, at, ψFits, entry_at, block_outputs, outputs_of}
use Rattle.block.specs.Calls.{count, outputs_up_to, filter_state_after, filter_state_at, Advanceable, BegunOn, ProgressedOn, BlockResultIs}
use Rattle.block.specs.Line.{place, newest}
use Rattle.filter.specs.declared.sample.BlockExponents.{BlockExponents}
use Rattle.block.specs.declared.run.Progress.{Progress}
use Rattle.filter.proofs.NextLaws.{next_symbols}
use Rattle.filter.proofs.DelayLaws.{next_delay_most, next_largest_bits_at}
use Rattle.block.proofs.BlockCount.{count_most, count_all, count_stopped}
use Rattle.block.proofs.BlockSound.{fit_at, fit_after}
use Rattle.block.proofs.BlockWindow.{after_next}
use Rattle.block.proofs.BlockMemory.{same_outputs}
use Rattle.block.proofs.LineLaws.{newest_given, newest_largest_bits_at}

-- what the loop carries: the weights, the line of symbols, ψ and the lists that are handed out
pub record Work : Type 0 where
  pub n : ℕ
  pub forward : List ℤ
  pub back : List ℤ
  pub symbols : List ℤ
  pub ψ : ℕ
  pub outputs : Outputs

-- n samples are done
pub record Reached (k : Settings) (o : Memory) (i : Block) (samples : List ℤ) (l : Outputs) (w : Work) : Type 0 where
  pub within : w.n ≤ k.N
  pub symbols_long : length w.symbols ≡ line_length
  pub filter_state_is : filter_state_after k w.n w.forward w.back samples w.symbols w.ψ ≡ after k o i w.n
  pub y_written : Written (block_outputs k o i).y l.y w.n w.outputs.y
  pub xi_written : Written (block_outputs k o i).xi l.xi w.n w.outputs.xi
  pub decision_written : Written (block_outputs k o i).decision l.decision w.n w.outputs.decision
  pub z_written : Written (block_outputs k o i).z l.z w.n w.outputs.z
  pub theta_written : Written (block_outputs k o i).theta l.theta w.n w.outputs.theta

-- and ψ kept its limit
pub record Passed (k : Settings) (o : Memory) (i : Block) (samples : List ℤ) (l : Outputs) (w : Work) (delay : ℕ) : Type 0 where
  pub reached : Reached k o i samples l w
  pub ψ_fits_on : ψFits k o i w.n ≡ true
  pub delay_most : delay ≤ tap_limit + w.n
  pub largest_bits_at : LargestBitsAt k.r delay (newest k.q w.n w.symbols)

-- what is stored of a sample is what it gave
pub record StoredAs (t : SampleResult) (y decision z : ℤ) : Type 0 where
  pub y_as : y ≡ t.y
  pub decision_as : decision ≡ t.decision
  pub z_as : z ≡ t.z

-- the bits of a register keep what fits it
pub stored_as : {t : SampleResult} → mag t.y < 2 ^ hbits w32 → mag t.decision < 2 ^ hbits w8 → mag t.z < 2 ^ hbits w32 →
    StoredAs t (to_z w32 (of_z w32 t.y)) (to_z w8 (of_z w8 t.decision)) (to_z w32 (of_z w32 t.z))
stored_as f g h = record { y_as = kept w32 _ f; decision_as = kept w8 _ g; z_as = kept w32 _ h }

-- these are all that are run
pub progressed : {k : Settings} {o : Memory} {i : Block} {samples : List ℤ} {l : Outputs} {w : Work} → Reached k o i samples l w → w.n ≡ count k o i k.N →
    ProgressedOn k o i samples l (record { count = w.n; psi = w.ψ }) w.forward w.back w.symbols w.outputs
progressed {k = k} {o = o} {i = i} {l = l} {w = w} p e = record {
  count_is = e;
  filter_state_is = p.filter_state_is ∙ ap (after k o i) e;
  outputs_are = same_outputs p.y_written.is p.xi_written.is p.decision_written.is p.z_written.is p.theta_written.is ∙ ap (λ (m : ℕ). outputs_up_to k o i m l) e;
}

module _ {k : Settings} {o : Memory} {i : Block} {e : BlockExponents} {ψ : ℕ} {entries forward₀ back₀ samples symbols₀ : List ℤ} {l : Outputs}
    (b : BegunOn k o i e ψ entries forward₀ back₀ samples symbols₀ l) where
  -- none is done
  pub passed_none : Passed k o i samples l (record { n = 0; forward = forward₀; back = back₀; symbols = symbols₀; ψ = ψ; outputs = l }) tap_limit
  unfolding ψFits
  passed_none = record {
    reached = record {
      within = omega arith;
      symbols_long = b.symbols_long;
      filter_state_is = b.filter_state_is;
      y_written = written_none _ _;
      xi_written = written_none _ _;
      decision_written = written_none _ _;
      z_written = written_none _ _;
      theta_written = written_none _ _;
    };
    ψ_fits_on = refl;
    delay_most = omega arith;
    largest_bits_at = λ a. absurd (omega (arith, length-take k.q (drop block_limit symbols₀), b.sound.within.q_most));
  }

  module _ {w : Work} {delay : ℕ} (p : Passed k o i samples l w delay) where
    fit : Fit k (Γ k o i) (after k o i w.n)
    fit = fit_after k o i b.sound b.acceptable w.n p.reached.within p.ψ_fits_on

    -- the weights are as many as the taps
    pub forward_long : length w.forward ≡ k.p
    forward_long = ap (λ (t : FilterState). length t.forward) p.reached.filter_state_is ∙ fit.forward_long

    pub back_long : length w.back ≡ k.q
    back_long = ap (λ (t : FilterState). length t.back) p.reached.filter_state_is ∙ fit.back_long

    -- the delay is one that a step may have
    pub delay_room : (k.r ≤ symbol_limit) × (delay ≤ line_length)
    delay_room = (b.sound.within.r_most, omega (arith, p.delay_most, p.reached.within, b.sound.within.N_most))

    -- all are done
    pub finished : length entries ≤ w.n → ProgressedOn k o i samples l (record { count = length entries; psi = w.ψ }) w.forward w.back w.symbols w.outputs
    finished h =
        let long = ap length b.entries_are ∙ b.acceptable.entries_long in
        let last = le_antisymm p.reached.within (omega arith) in
        subst (λ (m : ℕ). ProgressedOn k o i samples l (record { count = m; psi = w.ψ }) w.forward w.back w.symbols w.outputs) (last ∙ sym long)
        (progressed p.reached (last ∙ sym (count_all k o i k.N (ap (ψFits k o i) (sym last) ∙ p.ψ_fits_on))))

    -- one more is there
    module _ (further : w.n < length entries) {entry : ℤ} (q : entry ≡ get_or entries w.n (pos 0)) where
      more : w.n < k.N
      more = omega (arith, further, ap length b.entries_are, b.acceptable.entries_long)

      entry_is : entry ≡ entry_at k o i w.n
      entry_is = q ∙ ap (λ (t : List ℤ). get_or t w.n (pos 0)) b.entries_are

      abbrev filters : FilterState
      filters = filter_state_at k w.n w.forward w.back samples w.symbols w.ψ

      filter_state_at_lem : filters ≡ at k o i w.n
      unfolding at
      filter_state_at_lem = ap₂ (λ (t : FilterState) (a : List ℤ). filter_state_of t.forward t.back a t.symbols t.ψ) p.reached.filter_state_is (b.sample_line.windows (suc w.n) more ∙ after_next k o i w.n)

      fit_now : Fit k (Γ k o i) (at k o i w.n)
      fit_now = fit_at k o i b.sound b.acceptable w.n more p.ψ_fits_on

      room : w.n < block_limit
      room = omega (arith, more, b.sound.within.N_most)

      pub advanceable : Advanceable k e delay w.n entry samples w.symbols filters
      advanceable = record {
        room = room;
        samples_long = b.sample_line.long;
        symbols_long = p.reached.symbols_long;
        ready = rw (filter_state_at_lem, b.exponents.Γ_is, entry_is) (record {
          fit = fit_now;
          entry_is = each_at (λ (v : ℤ). is_entry k.r v ≡ true) i.entries w.n (pos 0) b.acceptable.entries_are (omega (arith, more, b.acceptable.entries_long));
          forward_scale = b.exponents.s_is;
          back_scale = b.exponents.sb_is;
        });
        largest_bits_at = p.largest_bits_at;
      }

      module _ {t : SampleResult} {forward back : List ℤ} (symbols : List ℤ) (h : SampleResultIs k e.gamma30 filters entry t forward back (newest (suc k.q) (suc w.n) symbols))
          (long : length symbols ≡ line_length) {ty td tz : ℤ} (same : StoredAs t ty td tz) where
        -- a step of the definitions
        step : SampleResultIs k (Γ k o i) (at k o i w.n) (entry_at k o i w.n) t forward back (newest (suc k.q) (suc w.n) symbols)
        step = rw (filter_state_at_lem, b.exponents.Γ_is, entry_is) at h

        ψ_next : t.psi ≡ (after k o i (suc w.n)).ψ
        unfolding after at
        ψ_next = step.psi

        abbrev pub work : Work
        work = record {
          n = w.n + 1;
          forward = forward;
          back = back;
          symbols = symbols;
          ψ = t.psi;
          outputs = outputs_of (set w.outputs.y w.n ty) (set w.outputs.xi w.n t.xi) (set w.outputs.decision w.n td)
              (set w.outputs.z w.n tz) (set w.outputs.theta w.n t.theta);
        }

        filter_state_next : filter_state_after k (suc w.n) forward back samples symbols t.psi ≡ after k o i (suc w.n)
        unfolding after at
        filter_state_next =
            let x = next_symbols k (Γ k o i) (at k o i w.n) (entry_at k o i w.n) in
            rw (
              step.forward_is,
              step.back_is,
              b.sample_line.windows (suc w.n) more,
              newest_given k.q w.n symbols _ _ step.symbols_are fit_now.symbols_long ∙ sym x,
              ψ_next,
            )

        reached : Reached k o i samples l work
        unfolding block_outputs
        reached = record {
          within = omega (arith, more);
          symbols_long = long;
          filter_state_is = rw (add-one w.n) filter_state_next;
          y_written = written_next p.reached.y_written (pos 0) _ (rw values_length more) (rw b.outputs_long.y_long more) (same.y_as ∙ step.y ∙ sym (values_at _ (pos 0) k.N w.n more));
          xi_written = written_next p.reached.xi_written 0 _ (rw values_length more) (rw b.outputs_long.xi_long more) (step.xi ∙ sym (values_at _ 0 k.N w.n more));
          decision_written = written_next p.reached.decision_written (pos 0) _ (rw values_length more) (rw b.outputs_long.decision_long more) (same.decision_as ∙ step.decision_is ∙ sym (values_at _ (pos 0) k.N w.n more));
          z_written = written_next p.reached.z_written (pos 0) _ (rw values_length more) (rw b.outputs_long.z_long more) (same.z_as ∙ step.z ∙ sym (values_at _ (pos 0) k.N w.n more));
          theta_written = written_next p.reached.theta_written 0 _ (rw values_length more) (rw b.outputs_long.theta_long more) (step.theta ∙ sym (values_at _ 0 k.N w.n more));
        }

        -- ψ kept its limit
        pub passed_next : t.psi ≤ exponent_limit → {delay' : ℕ} {v : ℤ} → v ≡ get_or symbols (place w.n) (pos 0) → delay' ≡ next_delay k.r delay v → Passed k o i samples l work delay'
        unfolding ψFits
        passed_next m {v = v} ev d = record {
          reached = reached;
          ψ_fits_on = rw (add-one w.n, p.ψ_fits_on) (le-leb _ _ (subst (λ (x : ℕ). x ≤ exponent_limit) ψ_next m));
          delay_most = omega (arith, d, next_delay_most k.r delay v, p.delay_most);
          largest_bits_at = rw (add-one w.n, d) (newest_largest_bits_at k.r (next_delay k.r delay v) k.q w.n symbols _ _ h.symbols_are long room
              (subst (λ (x : ℤ). LargestBitsAt k.r (next_delay k.r delay v) (x ∷ filters.symbols)) ev (next_largest_bits_at k.r delay v filters.symbols p.largest_bits_at)));
        }

        -- ψ passes it
        pub stopped : exponent_limit < t.psi → ProgressedOn k o i samples l (record { count = w.n + 1; psi = t.psi }) forward back symbols work.outputs
        stopped m = progressed reached (add-one w.n ∙ sym (count_stopped k o i w.n k.N more p.ψ_fits_on (subst (λ (x : ℕ). exponent_limit < x) ψ_next m)))

-- ---- the newest samples and symbols are where the old ones were

module _ {k : Settings} {o : Memory} {i : Block} {samples : List ℤ} {l : Outputs} {r : Progress} {forward back symbols : List ℤ} {l' : Outputs}
    (p : ProgressedOn k o i samples l r forward back symbols l') where
  pub count_room : k.N ≤ block_limit → r.count ≤ block_limit
  count_room h = omega (arith, p.count_is, count_most k o i k.N)

  pub block_result : {window past : List ℤ} {p' q' : ℕ} → window ≡ newest p' r.count samples → past ≡ newest q' r.count symbols → p' ≡ k.p → q' ≡ k.q →
      {b bmax : ℕ} → b ≡ newb k o i → bmax ≡ new_b k o i → BlockResultIs k o i l (record { psi = r.psi; b = b; bmax = bmax }) forward back window past l'
  block_result ew es ep eq eb eB = record {
    filter_state_is = ap₂ (λ (a b : List ℤ). filter_state_of forward back a b r.psi) (ew ∙ ap (λ (m : ℕ). newest m r.count samples) ep) (es ∙ ap (λ (m : ℕ). newest m r.count symbols) eq)
        ∙ p.filter_state_is;
    b = eb;
    bmax = eB;
    outputs_are = p.outputs_are;
  }

-- ---- place n of a list of N elements

-- in bytes, of elements of this size
pub place_fits : (n size : ℕ) → n < block_limit → size < 5 → Fits w64 (n * size)
place_fits n size h k = record { fits = omega (arith, mul-le-mul h k) }

pub place_within : (n : ℕ) → place n < block_limit
place_within n = omega arith

-- of a list that is written
pub within : {A : Type 0} {new old now : List A} {n i : ℕ} → n < i → length old ≡ i → Written new old n now → n < length now
within h e w = omega (arith, w.long)

-- of a line
pub line_place : (n : ℕ) (line : List ℤ) → length line ≡ line_length → place n < length line
line_place n line e = omega arith

pub delay_fits : {delay n : ℕ} → n < block_limit → delay ≤ tap_limit + n → delay ≤ line_length
delay_fits h m = omega arith

pub next_fits : (n : ℕ) → n < block_limit → Fits w64 (n + 1)
next_fits n h = record { fits = omega arith }

pub fewer : (m n : ℕ) → n < m → m - (n + 1) < m - n
fewer m n h = omega arith
