-- The leading zeros and the digits make up the width.
use native.Mathlib.Omega.{arith}
use lib.Count.{leading_le}
use Rattle.numbers.proofs.BitLengthLaws.{bit_length_leading}
use Rattle.numbers.proofs.bit_length.bit_length.Goals as goal

pub overflow_sub-result : goal.overflow_sub-result
overflow_sub-result c = leading_le 64 _

pub returns : goal.returns
returns c = omega (arith, bit_length_leading c.args.n 64 c.ranges.n.fits)
