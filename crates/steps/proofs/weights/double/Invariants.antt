use Rattle.std.proofs.Common.{◌≡◌, ◌++◌, map, take, drop, ℤ}
use Rattle.numbers.specs.Cut.{raise}
use Rattle.steps.proofs.weights.double.Given as goal

abbrev pub invariant-loop-x : goal.invariant-loop-x
invariant-loop-x l = l.x-items ≡ map (λ (x : ℤ). raise x 1) (take l.x-index l.initial.x-items) ++ drop l.x-index l.initial.x-items
