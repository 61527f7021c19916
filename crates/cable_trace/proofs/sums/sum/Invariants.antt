use mathlib.Core.Path.{◌≡◌}
use lib.ListN.{length, take}
use Rattle.laws.specs.Sums.{dot}
use Rattle.cable_trace.proofs.sums.sum.Given as goal

abbrev pub invariant-loop-h : goal.invariant-loop-h
invariant-loop-h l =
    (goal.iterator-loop-h).can_next l.h-iterator × (goal.iterator-loop-h).is_finite l.h-iterator × (l.sum ≡ dot (take (length l.yielded) l.h) (take (length l.yielded) l.v))
