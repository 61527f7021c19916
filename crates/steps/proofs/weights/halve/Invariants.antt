use Rattle.std.proofs.Common.{◌≡◌, ◌++◌, map, take, drop, ℤ}
use Rattle.numbers.specs.Cut.{cut}
use Rattle.steps.proofs.weights.halve.Given as goal

abbrev pub invariant-loop-x : goal.invariant-loop-x
invariant-loop-x l = l.x-items ≡ map (λ (x : ℤ). cut x 1) (take l.x-index l.initial.x-items) ++ drop l.x-index l.initial.x-items
