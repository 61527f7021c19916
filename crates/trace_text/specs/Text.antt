-- The text of a trace: a line for each sample of the accepted blocks, and a line of `stop` at a refusal.
use Rattle.std.specs.Prelude.{cond, List, [], ◌∷◌, ◌++◌, ℕ, zero, suc, ◌+◌, ◌*◌, eqb, get_or, ℤ, pos}
use Rattle.trace_layout.specs.Trace.{settings_in, count_in, well_formed}
use Rattle.block.specs.Block.{block_outputs}
use Rattle.state.specs.Sizes.{settings_number}
use Rattle.state.specs.State.{settings, memory, fresh}
use Rattle.station.specs.Answers.{run_number, run_state}
use Rattle.checks.specs.Checks.{Buffers}
use Rattle.state.specs.declared.equaliser.Equaliser.{Equaliser}
use Rattle.trace_text.specs.Decimal.{signed_decimal}
use Rattle.trace_text.specs.Buffers.{buffers_at}

abbrev pub space : ℕ
space = 32

abbrev pub newline : ℕ
newline = 10

-- a number and the byte after it
unfoldable pub field : ℤ → ℕ → List ℕ
field z last = signed_decimal z ++ (last ∷ [])

-- place, Y, ξ and decision
unfoldable pub line : ℕ → ℤ → ℕ → ℤ → List ℕ
line place Y ξ d = field (pos place) space ++ field Y space ++ field (pos ξ) space ++ field d newline

-- "stop ", the number and the block
unfoldable pub stop_line : ℕ → ℕ → List ℕ
stop_line number block = (115 ∷ 116 ∷ 111 ∷ 112 ∷ space ∷ []) ++ field (pos number) space ++ field (pos block) newline

-- the first n lines of what a block hands out, from a place on
unfoldable pub lines : ℕ → List ℤ → List ℕ → List ℤ → ℕ → List ℕ
lines place Y ξ d zero = []
lines place Y ξ d (suc n) = lines place Y ξ d n ++ line (place + n) (get_or Y n (pos 0)) (get_or ξ n 0) (get_or d n (pos 0))

-- the lines of an accepted block
unfoldable pub block_lines : ℕ → Equaliser → Buffers → List ℕ
block_lines place e l =
    let o = block_outputs (settings e) (memory e) l.block in
    lines place o.y o.xi o.decision e.n

-- what the block i adds to the text: its lines, or the line of its refusal
unfoldable pub block_text : List ℕ → Equaliser → ℕ → List ℕ
block_text t e i =
    let l = buffers_at t (i * e.n) in
    cond (eqb (run_number e l) 0) (block_lines (i * e.n) e l) (stop_line (run_number e l) i)

-- the text of the last blocks, from the block i on
unfoldable pub text_from : List ℕ → ℕ → ℕ → Equaliser → List ℕ
text_from t zero i e = []
text_from t (suc blocks) i e =
    let l = buffers_at t (i * e.n) in
    block_text t e i ++ cond (eqb (run_number e l) 0) (text_from t blocks (suc i) (run_state e l)) []

unfoldable pub trace_text : List ℕ → List ℕ
trace_text t =
    cond (well_formed t)
    (cond (eqb (settings_number (settings_in t)) 0) (text_from t (count_in t) 0 (fresh (settings_in t))) (stop_line (settings_number (settings_in t)) 0))
    (stop_line 8 0)
