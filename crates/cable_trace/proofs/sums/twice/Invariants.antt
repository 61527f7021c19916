use Rattle.laws.specs.Loops.{Written}
use Rattle.cable_trace.specs.Calls.{twice}
use Rattle.cable_trace.proofs.sums.twice.Given as goal

abbrev pub invariant-loop-i : goal.invariant-loop-i
invariant-loop-i l = Written (twice l.h) l.initial.taps l.i l.taps
