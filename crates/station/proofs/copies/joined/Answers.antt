-- The first list is copied to the front of an array of zeros, the second behind it.
use lib.IntN.{pos}
use Rattle.steps.specs.Limits.{slots}
use Rattle.station.proofs.CopyLaws.{joined_is}
use Rattle.station.proofs.copies.joined.Goals as goal

pub returns : goal.returns
returns c = joined_is slots (pos 0) _ _ _ _ c.copy_from_slice.ensures.after c.copy_from_slice-2.ensures.after
