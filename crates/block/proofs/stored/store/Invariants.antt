use Rattle.laws.specs.Loops.{Written}
use Rattle.block.specs.Block.{stored_all}
use Rattle.block.proofs.stored.store.Given as goal

abbrev pub invariant-loop-i : goal.invariant-loop-i
invariant-loop-i l = Written (stored_all l.shift l.m l.gains) l.initial.out l.i l.out
