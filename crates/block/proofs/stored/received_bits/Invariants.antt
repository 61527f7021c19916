use Rattle.std.proofs.Common.{length}
use Rattle.steps.proofs.LargestLaws.{Seen}
use Rattle.block.specs.Block.{received_all}
use Rattle.block.proofs.stored.received_bits.Given as goal

abbrev pub invariant-loop-m : goal.invariant-loop-m
invariant-loop-m l =
    (goal.iterator-loop-m).can_next l.m-iterator × (goal.iterator-loop-m).is_finite l.m-iterator × Seen (received_all l.m l.gains) (length l.yielded) l.seen
