use Rattle.cable_trace.proofs.LineLaws.{Lined}
use Rattle.cable_trace.proofs.sums.line.Given as goal

abbrev pub invariant-loop-i : goal.invariant-loop-i
invariant-loop-i l = Lined l.symbols l.i l.line
