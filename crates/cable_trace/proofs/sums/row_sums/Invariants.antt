use lib.ListN.{length}
use Rattle.laws.specs.Loops.{Written}
use Rattle.cable_trace.specs.Calls.{row_sums}
use Rattle.cable_trace.proofs.sums.row_sums.Given as goal

abbrev pub invariant-loop-i : goal.invariant-loop-i
invariant-loop-i l = Written (row_sums l.taps l.line (length l.initial.out)) l.initial.out l.i l.out
