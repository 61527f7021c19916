use Rattle.laws.specs.Loops.{Written}
use Rattle.cable_trace.specs.Calls.{sample_words}
use Rattle.cable_trace.proofs.word.words.Given as goal

abbrev pub invariant-loop-s : goal.invariant-loop-s
invariant-loop-s l = Written (sample_words l.r l.initial.s-items) l.initial.s-items l.s-index l.s-items
