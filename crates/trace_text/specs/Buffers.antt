-- The lists that a block of a trace is run on.
use Rattle.std.specs.Prelude.{List, ℕ, replicate, ℤ, pos}
use Rattle.trace_layout.specs.Trace.{settings_in, samples_from, gains_from, entries_from}
use Rattle.block.specs.Block.{block_of, outputs_of}
use Rattle.checks.specs.Checks.{Buffers}

-- the lists of a block whose first sample has this place, with lists for Y, ξ and decision
unfoldable pub buffers_with : List ℕ → ℕ → List ℤ → List ℕ → List ℤ → Buffers
buffers_with t first y xi decision =
    let N = (settings_in t).N in
    record {
      block = block_of (samples_from t first N) (gains_from t first N) (entries_from t first N);
      outputs = outputs_of y xi decision (replicate N (pos 0)) (replicate N 0);
    }

-- all lists for what it hands out are zeros
abbrev pub buffers_at : List ℕ → ℕ → Buffers
buffers_at t first =
    let N = (settings_in t).N in
    buffers_with t first (replicate N (pos 0)) (replicate N 0) (replicate N (pos 0))
