-- What the functions that write text ask and promise.
use Rattle.std.specs.Prelude.{true, Result, List, ◌++◌, ◌≡◌, ℕ, ◌+◌, ◌*◌, ◌-◌, ◌/◌, ◌^◌, ◌≤◌, ◌<◌, length, get_or, take, drop, ℤ, pos, nat_abs}
use Rattle.steps.specs.Limits.{output_unit, block_limit, symbol_limit, output_exponent_limit}
use Rattle.trace_layout.specs.Trace.{trace_limit, settings_in, count_in, samples_in, well_formed}
use Rattle.state.specs.Calls.{number_in}
use Rattle.state.specs.Refusal.{answer_with}
use Rattle.state.specs.declared.equaliser.Equaliser.{Equaliser}
use Rattle.state.specs.declared.equaliser.Answer.{Answer}
use Rattle.state.specs.declared.refusal.Refusal.{Refusal}
use Rattle.checks.specs.Checks.{Buffers}
use Rattle.station.specs.Answers.{run_number, run_state, run_outputs}
use Rattle.trace_text.specs.Buffers.{buffers_at}
use Rattle.trace_text.specs.Text.{block_text}

-- ---- room for lines and texts

-- no line is longer: 5 digits of a place, 9 of Y, 2 of ξ and of a decision, two signs, a byte after each number
abbrev pub line_limit : ℕ
line_limit = 5 + (1 + 9) + 2 + (1 + 2) + 4

-- no text is longer: a sample takes 4 bytes of the trace
abbrev pub text_limit : ℕ
text_limit = line_limit * (trace_limit / 4)

-- a text from a place on, and where it ends
pub record TextAt (at : ℕ) (text before : List ℕ) (end : ℕ) (after : List ℕ) : Type 0 where
  pub end_is : end ≡ at + length text
  pub contents : after ≡ take at before ++ text ++ drop (at + length text) before

-- ---- lines

-- place, Y, ξ and decision of a sample, within the bounds of a trace
pub record Printable (place : ℕ) (Y : ℤ) (ξ : ℕ) (d : ℤ) : Type 0 where
  pub place_below : place < trace_limit
  pub Y_below : nat_abs Y < 2 ^ (output_unit - 1)
  pub ξ_most : ξ ≤ output_exponent_limit
  pub decision_below : nat_abs d < 2 ^ (symbol_limit + 1)

-- the lists of a block whose first sample has this place
pub record AllPrintable (place : ℕ) (Y : List ℤ) (ξ : List ℕ) (d : List ℤ) : Type 0 where
  pub short : length Y ≤ block_limit
  pub ξ_long : length ξ ≡ length Y
  pub decisions_long : length d ≡ length Y
  pub each : (i : ℕ) → i < length Y → Printable (place + i) (get_or Y i (pos 0)) (get_or ξ i 0) (get_or d i (pos 0))

-- ---- a block

-- a state with the N of a trace
pub record OfTrace (t : List ℕ) (e : Equaliser) : Type 0 where
  pub well_formed_lem : well_formed t ≡ true
  pub n_is : e.n ≡ (settings_in t).N
  pub n_most : e.n ≤ block_limit

-- the block whose first sample has this place
pub record BlockRunnable (t : List ℕ) (e : Equaliser) (first : ℕ) : Type 0 where
  pub trace : OfTrace t e
  pub within : first + e.n ≤ samples_in t

-- the answer, and the lists for Y, ξ and decision at the end
pub record RanIs (e : Equaliser) (l : Buffers) (a : Answer) (y : List ℤ) (xi : List ℕ) (decision : List ℤ) : Type 0 where
  pub number : a.number ≡ run_number e l
  pub state : a.state ≡ run_state e l
  pub y_is : y ≡ (run_outputs e l).y
  pub xi_is : xi ≡ (run_outputs e l).xi
  pub decision_is : decision ≡ (run_outputs e l).decision

-- the block i, and room for its lines and a line of a refusal
pub record Blockable (t : List ℕ) (e : Equaliser) (i at : ℕ) (out : List ℕ) : Type 0 where
  pub trace : OfTrace t e
  pub within : i < count_in t
  pub room : at + line_limit * (e.n + 1) ≤ length out

-- what the block i answers, and its text from a place on
pub record AddedIs (t : List ℕ) (e : Equaliser) (i at : ℕ) (r : Result Equaliser Refusal) (before : List ℕ) (end : ℕ) (after : List ℕ) : Type 0 where
  pub number : number_in r ≡ run_number e (buffers_at t (i * e.n))
  pub state : (answer_with e r).state ≡ run_state e (buffers_at t (i * e.n))
  pub written : TextAt at (block_text t e i) before end after

-- ---- the whole trace

-- room for any text from a place on
pub record Traceable (t : List ℕ) (e : Equaliser) (at : ℕ) (out : List ℕ) : Type 0 where
  pub trace : OfTrace t e
  pub room : at + text_limit ≤ length out
