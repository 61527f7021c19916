use mathlib.Core.Bool.{true}
use lib.ListN.{length}
use Rattle.laws.specs.Loops.{Written}
use Rattle.laws.specs.Values.{values}
use Rattle.cable_trace.proofs.PutLaws.{part_bytes}
use Rattle.cable_trace.proofs.put.symbol_bytes.Given as goal

abbrev pub invariant-loop-i : goal.invariant-loop-i
invariant-loop-i l = Written (values (part_bytes true l.symbols) (length l.symbols)) l.initial.out l.i l.out
