-- The specification's worked example, computed by the definitions.
use mathlib.Core.Path.{◌≡◌, refl}
use mathlib.Core.List.{List, [], ◌∷◌}
use Prim.Native.Nat.{ℕ}
use lib.Dec.{lit<}
use Rattle.laws.specs.Sums.{dot}
use Rattle.laws.specs.Values.{values}
use Rattle.numbers.specs.ScaleCount.{scale_count}
use Rattle.numbers.specs.BitLength.{bit_length}
use Rattle.numbers.specs.Cut.{cut}
use Rattle.steps.specs.Fir.{largest, adapt, largest_bits}
use Rattle.steps.specs.Output.{output, output_exponent}
use Rattle.steps.specs.Decision.{decide}
use Rattle.steps.specs.Error.{error, error_exponent}
use Rattle.trace_layout.specs.Trace.{well_formed}
use Rattle.filter.specs.Sample.{ν, F, H, Y, ξ, decision, v, κ, Z, θ, J, outcome_of, new_forward, new_back, outcome, next}
use Rattle.block.specs.Block.{received_all, newb, new_b, Γ, stored, old, start, after, at, ψFits, block_outputs, next_memory}
use Rattle.state.specs.Sizes.{settings_number}
use Rattle.state.specs.State.{is_sound, state_of, fresh}
use Rattle.station.specs.Answers.{run_number, run_state}
use Rattle.checks.specs.Checks.{check_number}
use Rattle.state.specs.Answers.{examined}
use Rattle.trace_text.specs.Decimal.{decimal_digits, decimal, signed_decimal}
use Rattle.trace_text.specs.Buffers.{buffers_with}
use Rattle.trace_text.specs.Text.{field, line, stop_line, lines, block_lines, block_text, text_from, trace_text}
use Rattle.trace_text.proofs.DecimalLaws.{decimal_one, decimal_steps}

-- all definitions but those of the digits, opened
steps : Unit {0}
unfolding scale_count bit_length cut dot largest adapt largest_bits output output_exponent decide error error_exponent ν F H Y ξ decision v κ Z θ J outcome_of new_forward new_back outcome next received_all values newb new_b Γ stored old start after at ψFits block_outputs next_memory settings_number is_sound state_of fresh examined check_number run_number run_state signed_decimal well_formed buffers_with field line stop_line lines block_lines block_text text_from trace_text
steps = tt

-- p = q = N = 1, r = L = 0, two blocks, M = 67108864; m = 16384 with gain 0 twice; trained on 1, then decided
example : List ℕ
example =
    0x01 ∷ 0x01 ∷ 0x01 ∷ 0x00 ∷ 0x00 ∷ 0x00 ∷ 0x02 ∷ 0x00 ∷ 0x00 ∷ 0x00 ∷ 0x00 ∷ 0x04 ∷ 0x00 ∷ 0x40 ∷ 0x00 ∷ 0x00 ∷ 0x40 ∷ 0x00 ∷ 0x01 ∷ 0x00 ∷ []

-- a number of seven digits takes six steps
seven : decimal 4194304 ≡ 52 ∷ 49 ∷ 57 ∷ 52 ∷ 51 ∷ 48 ∷ 52 ∷ []
unfolding decimal_digits
seven = decimal_steps 6 4194304 (lit< tt)

-- "0 0 1 1" and "1 4194304 2 1", a newline after each
prints : trace_text example ≡
    48 ∷ 32 ∷ 48 ∷ 32 ∷ 49 ∷ 32 ∷ 49 ∷ 10
    ∷ 49 ∷ 32 ∷ 52 ∷ 49 ∷ 57 ∷ 52 ∷ 51 ∷ 48 ∷ 52 ∷ 32 ∷ 50 ∷ 32 ∷ 49 ∷ 10 ∷ []
unfolding steps example
prints = simp (decimal_one 0 (lit< tt), decimal_one 1 (lit< tt), decimal_one 2 (lit< tt), seven)

-- three bytes are too few: "stop 8 0" and a newline
stops : trace_text (1 ∷ 1 ∷ 1 ∷ []) ≡ 115 ∷ 116 ∷ 111 ∷ 112 ∷ 32 ∷ 56 ∷ 32 ∷ 48 ∷ 10 ∷ []
unfolding steps decimal_digits decimal
stops = refl
