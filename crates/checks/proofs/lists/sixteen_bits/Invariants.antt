use lib.ListN.{take}
use Rattle.checks.specs.Calls.{Sampled}
use Rattle.checks.proofs.lists.sixteen_bits.Given as goal

abbrev pub invariant-loop-x : goal.invariant-loop-x
invariant-loop-x l = Sampled (take l.x-index l.m)
