-- The list is copied to the front of an array of zeros.
use lib.IntN.{pos}
use Rattle.steps.specs.Limits.{tap_limit}
use Rattle.station.proofs.CopyLaws.{fronted_is}
use Rattle.station.proofs.copies.fronted.Goals as goal

pub returns : goal.returns
returns c = fronted_is tap_limit (pos 0) _ _ c.copy_from_slice.ensures.after
