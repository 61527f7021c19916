-- The error is taken of the symbol that was chosen.
use mir.Syntax.{w16}
use mir.Facts.{to_z-of_z}
use borrow.Author.Rules.{rules}
use Rattle.laws.specs.Machine.{kept}
use Rattle.filter.proofs.SampleLaws.{error_bounds_of}
use Rattle.filter.proofs.sample.decision_error.Goals as goal

pub error-e-requires : goal.error-e-requires
error-e-requires c = rw (kept w16 c.chosen-v.result c.chosen-v.type_inv, to_z-of_z c.ranges.y) (error_bounds_of (search rules) c.requires)
