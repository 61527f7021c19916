-- Digits counted and digits of what is left make up all digits, and one more.
use native.Mathlib.Omega.{arith}
use Rattle.trace_text.proofs.DecimalLaws.{length_one, length_more, decimal_short}
use Rattle.trace_text.proofs.line.width.Goals as goal

pub overflow_add-count : goal.overflow_add-count
overflow_add-count c =
    omega (arith, length_more c.loop-left.left c.loop-left-test.true, decimal_short 9 c.args.n (omega arith))

pub loop-left-preserved : goal.loop-left-preserved
loop-left-preserved c = omega (arith, length_more c.loop-left.left c.loop-left-test.true)

pub returns : goal.returns
returns c = omega (arith, length_one c.loop-left.left c.loop-left-test.false)
