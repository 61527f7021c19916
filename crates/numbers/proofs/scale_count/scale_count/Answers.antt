-- The rule at 0, and the bit length of 2k − 1.
use mathlib.Core.Path.{sym, ap, ◌∙◌}
use native.Mathlib.Omega.{arith}
use Rattle.numbers.specs.BitLength.{bit_length}
use Rattle.numbers.proofs.ScaleCountLaws.{scale_least, scale_bits}
use Rattle.numbers.proofs.scale_count.scale_count.Goals as goal

pub returns-then-k-eq0 : goal.returns-then-k-eq0
returns-then-k-eq0 c = omega (arith, scale_least c.args.k 0 (omega arith))

pub returns : goal.returns
returns c = c.bit_length.ensures ∙ ap bit_length (omega arith) ∙ sym (scale_bits c.args.k (omega arith))
