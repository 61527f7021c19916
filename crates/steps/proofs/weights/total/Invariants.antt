use Rattle.std.proofs.Common.{◌≡◌, length, take}
use Rattle.laws.specs.Sums.{dot}
use Rattle.steps.proofs.weights.total.Given as goal

abbrev pub invariant-loop-w : goal.invariant-loop-w
invariant-loop-w l =
    let i = length l.yielded in
    (goal.iterator-loop-w).can_next l.w-iterator × (goal.iterator-loop-w).is_finite l.w-iterator × (l.total ≡ dot (take i l.w) (take i l.a))
