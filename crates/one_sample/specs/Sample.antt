-- A block of one sample with the gain 0, on lists of a 0 for its outputs.
use Rattle.std.specs.Prelude.{[], ◌∷◌, ℤ, pos}
use Rattle.block.specs.Block.{outputs_of}
use Rattle.checks.specs.Checks.{Buffers, buffers_of}
use Rattle.state.specs.Refusal.{answer_with}
use Rattle.state.specs.declared.equaliser.Equaliser.{Equaliser}
use Rattle.station.specs.Answers.{Run}
use Rattle.one_sample.specs.declared.SampleResult.{SampleResult}

abbrev pub sample_buffers : ℤ → ℤ → Buffers
sample_buffers sample entry =
    buffers_of (sample ∷ []) (0 ∷ []) (entry ∷ []) (pos 0 ∷ []) (0 ∷ []) (pos 0 ∷ []) (pos 0 ∷ []) (0 ∷ [])

-- what running it answers and hands out
abbrev pub SampleRun : Equaliser → ℤ → ℤ → SampleResult → Type 0
SampleRun e sample entry r = Run e (sample_buffers sample entry) (answer_with e r.next) (outputs_of r.y r.xi r.decision r.z r.theta)
