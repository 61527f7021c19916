-- The text of a trace, block after block.
use mathlib.Core.Path.{◌≡◌, sym, ap, ◌∙◌}
use mathlib.Core.Bool.{Bool, true, cond}
use mathlib.Core.List.{List, [], ◌++◌, append_assoc, append-nil}
use Prim.Native.Nat.{ℕ, suc, ◌+◌, ◌*◌, ◌-◌, ◌≤◌, ◌<◌}
use native.Mathlib.Omega.{arith}
use native.Mathlib.Nat.{mul-le-mul_right}
use native.Mathlib.Numerals.{add-one}
use lib.ListN.{length, length-append}
use borrow.Author.Tests.{eq-eqb, ne_eqb}
use Rattle.std.specs.Prelude.{Ok, Err}
use Rattle.words.specs.Words.{byte_at}
use Rattle.steps.specs.Limits.{slots}
use Rattle.steps.specs.Settings.{Settings}
use Rattle.trace_layout.specs.Trace.{settings_in, count_in, well_formed}
use Rattle.trace_layout.proofs.ReadLaws.{well_long, well_most}
use Rattle.state.specs.declared.equaliser.Equaliser.{Equaliser}
use Rattle.state.specs.declared.refusal.Refusal.{Refusal}
use Rattle.station.specs.Answers.{run_number, run_state}
use Rattle.station.proofs.NumberLaws.{run_settings, run_long}
use Rattle.trace_text.specs.Buffers.{buffers_at}
use Rattle.trace_text.specs.Text.{block_text, text_from}
use Rattle.trace_text.specs.Calls.{line_limit, text_limit, TextAt, OfTrace, Blockable, AddedIs, Traceable}
use Rattle.trace_text.proofs.TextAtLaws.{text_none, text_same, text_long, text_then}
use Rattle.trace_text.proofs.BlockLaws.{number_some, sampled, block_few, accepted_text, block_short}

-- ---- one block more

module _ (t : List ℕ) (e : Equaliser) (i m : ℕ) where
  goes_on : run_number e (buffers_at t (i * e.n)) ≡ 0 → text_from t (suc m) i e ≡ block_text t e i ++ text_from t m (suc i) (run_state e (buffers_at t (i * e.n)))
  unfolding text_from
  goes_on h = simp (eq-eqb (run_number e (buffers_at t (i * e.n))) 0 h)

  stops : (run_number e (buffers_at t (i * e.n)) ≡ 0 → ⊥) → text_from t (suc m) i e ≡ block_text t e i
  unfolding text_from
  stops h = ap (λ (b : Bool). block_text t e i ++ cond b (text_from t m (suc i) (run_state e (buffers_at t (i * e.n)))) []) (ne_eqb (run_number e (buffers_at t (i * e.n))) 0 h) ∙ append-nil (block_text t e i)

-- ---- the first i blocks are written

pub record Going (t : List ℕ) (first : Equaliser) (start : ℕ) (before : List ℕ) (i at : ℕ) (e : Equaliser) (out : List ℕ) : Type 0 where
  pub within : i ≤ count_in t
  pub n_is : e.n ≡ (settings_in t).N
  pub weights_long : length e.weights ≡ slots
  pub past_long : length e.past ≡ slots
  pub done : List ℕ
  pub written : TextAt start done before at out
  pub text_is : text_from t (count_in t) 0 first ≡ done ++ text_from t (count_in t - i) i e
  pub short : length done ≤ line_limit * (i * (settings_in t).N)

-- none is written
pub going_none : {t : List ℕ} {e : Equaliser} {start : ℕ} {out : List ℕ} → e.n ≡ (settings_in t).N → length e.weights ≡ slots → length e.past ≡ slots → Going t e start out 0 start e out
going_none {t} {e} {start} {out} h w d = record {
  within = omega arith;
  n_is = h;
  weights_long = w;
  past_long = d;
  done = [];
  written = text_none start out;
  text_is = ap (λ (n : ℕ). text_from t n 0 e) (omega arith);
  short = omega arith;
}

module _ {t : List ℕ} {first : Equaliser} {start : ℕ} {before : List ℕ} {i at : ℕ} {e : Equaliser} {out : List ℕ} (w : Going t first start before i at e out) where
  -- one block less is left
  module _ (h : i < count_in t) where
    left_over : text_from t (count_in t) 0 first ≡ w.done ++ text_from t (suc (count_in t - (i + 1))) i e
    left_over = w.text_is ∙ ap (λ (n : ℕ). w.done ++ text_from t n i e) less
      where
        less : count_in t - i ≡ suc (count_in t - (i + 1))
        less = omega arith

  -- the next block is accepted
  pub going_next : {s : Equaliser} {end : ℕ} {p : List ℕ} → start ≤ length before → OfTrace t e → ((j : ℕ) → byte_at t j < 256) → i < count_in t → AddedIs t e i at (Ok s) out end p → Going t first start before (i + 1) end s p
  going_next {s} f o b h a =
      let l = buffers_at t (i * e.n) in
      let none : run_number e l ≡ 0 = sym a.number in
      let state : s ≡ run_state e l = a.state in
      let m = sampled t (i * e.n) _ _ _ b in
      let long = run_long e l none w.weights_long w.past_long m in
      record {
        within = omega arith;
        n_is = ap (λ (k : Equaliser). k.n) state ∙ ap (λ (k : Settings). k.N) (run_settings e l) ∙ w.n_is;
        weights_long = ap (λ (k : Equaliser). length k.weights) state ∙ long.0;
        past_long = ap (λ (k : Equaliser). length k.past) state ∙ long.1;
        done = w.done ++ block_text t e i;
        written = text_then w.written f a.written;
        text_is =
            left_over h ∙ ap (λ (k : List ℕ). w.done ++ k) (goes_on t e i (count_in t - (i + 1)) none)
            ∙ sym (append_assoc w.done (block_text t e i) (text_from t (count_in t - (i + 1)) (suc i) (run_state e l)))
            ∙ ap (λ (n : ℕ). (w.done ++ block_text t e i) ++ text_from t (count_in t - (i + 1)) n (run_state e l)) (sym (add-one i))
            ∙ ap (λ (k : Equaliser). (w.done ++ block_text t e i) ++ text_from t (count_in t - (i + 1)) (i + 1) k) (sym state);
        short = omega (
          arith,
          length-append w.done (block_text t e i),
          w.short,
          ap length (accepted_text t e i none),
          block_short e l (i * e.n) none w.weights_long w.past_long m (omega (arith, block_few t e o i h)),
          ap (λ (n : ℕ). line_limit * n) w.n_is,
        );
      }

  -- the next block is refused
  pub going_stops : {x : Refusal} {end : ℕ} {p : List ℕ} → start ≤ length before → i < count_in t → AddedIs t e i at (Err x) out end p → TextAt start (text_from t (count_in t) 0 first) before end p
  going_stops {x} f h a =
      text_same
      (sym (left_over h ∙ ap (λ (s : List ℕ). w.done ++ s) (stops t e i (count_in t - (i + 1)) (λ z. number_some x (a.number ∙ z)))))
      (text_then w.written f a.written)

  -- all blocks are written
  pub going_all : count_in t ≤ i → TextAt start (text_from t (count_in t) 0 first) before at out
  unfolding text_from
  going_all h =
      let none : count_in t - i ≡ 0 = omega arith in
      text_same (sym (w.text_is ∙ ap (λ (n : ℕ). w.done ++ text_from t n i e) none ∙ append-nil w.done)) w.written

  module _ (h : well_formed t ≡ true) (k : start + text_limit ≤ length before) where
    pub going_long : length out ≡ length before
    going_long = text_long w.written (omega (arith, k, w.short, well_long t h, well_most t h, mul-le-mul_right (settings_in t).N w.within))

    -- there is room for another block
    pub going_room : i < count_in t → at + line_limit * (e.n + 1) ≤ length out
    going_room g =
        let next : i + 1 ≤ count_in t = omega arith in
        omega (
          arith,
          k,
          going_long,
          w.written.end_is,
          w.short,
          w.n_is,
          well_long t h,
          well_most t h,
          mul-le-mul_right (settings_in t).N next,
        )

  module _ (q : Traceable t first start before) where
    pub going_of_trace : OfTrace t e
    going_of_trace = record { well_formed_lem = q.trace.well_formed_lem; n_is = w.n_is; n_most = omega (arith, w.n_is, q.trace.n_is, q.trace.n_most) }

    -- another block can be run, and there is room for its text
    pub going_blockable : i < count_in t → Blockable t e i at out
    going_blockable g = record { trace = going_of_trace; within = g; room = going_room q.trace.well_formed_lem q.room g }
