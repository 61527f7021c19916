-- The sample, widened, times a power of two of at most 2^gain_limit.
use mathlib.Core.Path.{◌∙◌}
use mir.Syntax.{w32}
use mir.Facts.{to_z-of_z}
use Rattle.laws.specs.Machine.{kept, abs_fits}
use Rattle.block.proofs.ReceivedLaws.{received_room}
use Rattle.block.proofs.stored.received.Goals as goal

pub raise-requires : goal.raise-requires
raise-requires c = received_room (kept w32 _ c.from.type_inv ∙ c.from.ensures ∙ to_z-of_z c.ranges.m) c.from-2.ensures (abs_fits c.ranges.m)
