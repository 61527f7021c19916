use mathlib.Core.Path.{◌≡◌}
use Rattle.cable_trace.specs.Calls.{stored_words}
use Rattle.cable_trace.proofs.put.samples.Given as goal

abbrev pub invariant-loop-i : goal.invariant-loop-i
invariant-loop-i l = l.out ≡ stored_words l.words l.initial.out l.i
