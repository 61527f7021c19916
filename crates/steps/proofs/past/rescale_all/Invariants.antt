use Rattle.std.proofs.Common.{◌≡◌, ◌++◌, map, take, drop, ℤ}
use Rattle.numbers.specs.Cut.{rescale}
use Rattle.steps.proofs.past.rescale_all.Given as goal

abbrev pub invariant-loop-x : goal.invariant-loop-x
invariant-loop-x l = l.x-items ≡ map (λ (x : ℤ). rescale x l.fn.i l.fn.j) (take l.x-index l.initial.x-items) ++ drop l.x-index l.initial.x-items
