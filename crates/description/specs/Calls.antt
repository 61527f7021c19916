-- What the functions of a description ask and promise.
use Rattle.std.specs.Prelude.{◌≡◌, true, cond, List, ℕ, ◌+◌, ◌*◌, ◌/◌, ◌≤◌, leb, length}
use Rattle.trace_layout.specs.Trace.{trace_limit}
use Rattle.trace_layout.specs.Trace as Trace
use Rattle.description.specs.Description.{description_limit, well_described}

-- no description has as many values of a response
abbrev pub response_room : ℕ
response_room = description_limit / 2

-- a description and one of its counts
pub record Counted (t : List ℕ) (count n : ℕ) : Type 0 where
  pub well_described_lem : well_described t ≡ true
  pub count_is : n ≡ count

-- where the trace of n symbols ends; 0 where it would be too long
abbrev pub trace_end : ℕ → ℕ
trace_end n = cond (leb (Trace.trace_header_length + 4 * n) trace_limit) (Trace.trace_header_length + 4 * n) 0

-- a description with room for any trace
pub record Describable (t out : List ℕ) : Type 0 where
  pub well_described_lem : well_described t ≡ true
  pub room : trace_limit ≤ length out
