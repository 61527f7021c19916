-- The scale counts, the bit length of the received-bits sample, and the larger of it and the one before.
use mathlib.Core.Path.{ap, ◌∙◌}
use native.Mathlib.Omega.{arith}
use Rattle.numbers.specs.ScaleCount.{scale_count}
use Rattle.block.proofs.RunStart.{length_most, exponent_most, exponents_are}
use Rattle.block.proofs.run.begin.Goals as goal

pub overflow_add-result : goal.overflow_add-result
overflow_add-result c =
    let most = exponent_most c.requires c.max-bmax.result (omega (arith, c.max-bmax.ensures, length_most c.bit_length-b.ensures (omega arith))) in
    record { fits = omega arith }

pub overflow_add-result-2 : goal.overflow_add-result-2
overflow_add-result-2 c =
    let most = exponent_most c.requires c.max-bmax.result (omega (arith, c.max-bmax.ensures, length_most c.bit_length-b.ensures (omega arith))) in
    record { fits = omega (arith, c.scale_count-s.ensures ∙ ap scale_count c.from.ensures) }

pub returns : goal.returns
returns c =
    exponents_are c.requires (c.from-3.ensures ∙ c.received_bits.ensures) c.bit_length-b.ensures c.max-bmax.ensures
    (c.scale_count-s.ensures ∙ ap scale_count c.from.ensures) (c.scale_count-sb.ensures ∙ ap scale_count c.from-2.ensures) c.from-4.ensures
