use lib.ListN.{length}
use Rattle.laws.specs.Loops.{Written}
use Rattle.trace_layout.specs.Trace.{samples_from, gains_from, entries_from}
use Rattle.trace_layout.proofs.read.block.Given as goal

abbrev pub invariant-loop-i : goal.invariant-loop-i
invariant-loop-i l =
    Written (samples_from l.t l.first (length l.fn.m)) l.fn.m l.i l.m × Written (gains_from l.t l.first (length l.fn.m)) l.fn.gains l.i l.gains
    × Written (entries_from l.t l.first (length l.fn.m)) l.fn.entries l.i l.entries
