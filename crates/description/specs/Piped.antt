-- What the trace program makes of what the program `cable` writes.
use Rattle.std.specs.Prelude.{◌≡◌, true, List, ◌⊎◌, ℕ}
use Rattle.trace_text.specs.Text.{stop_line, trace_text}
use Rattle.cable_trace.specs.Cable.{trace_length, cable_trace, cable_number}
use Rattle.cable_trace.specs.Reading.{Reads}
use Rattle.description.specs.Description.{well_described, cable_in, described}

-- a cable that is accepted: its trace, read as such
pub record PipedTrace (t : List ℕ) : Type 0 where
  pub well_described_lem : well_described t ≡ true
  pub accepted : cable_number (cable_in t) (trace_length (cable_in t)) ≡ 0
  pub output_is : described t ≡ cable_trace (cable_in t)
  pub reads : Reads (cable_in t) (described t)

-- for every description that trace, or else a line that is turned down as no trace
abbrev pub Piped : List ℕ → Type 0
Piped t = PipedTrace t ⊎ (trace_text (described t) ≡ stop_line 8 0)
