-- Nothing is lost, and no whole number is a NaN.
use mir.Facts.{to_z-of_z}
use Rattle.cable_trace.proofs.FloatLaws.{float_number, float_bits_lem}
use Rattle.cable_trace.proofs.word.float_bits.Goals as goal

pub float_to_bits-result : goal.float_to_bits-result
float_to_bits-result c = simp (to_z-of_z c.ranges.s) (float_number c.args.s c.requires)

pub returns : goal.returns
returns c = simp (to_z-of_z c.ranges.s) (float_bits_lem c.args.s c.requires)
