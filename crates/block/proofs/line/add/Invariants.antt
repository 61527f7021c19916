use mathlib.Core.Path.{◌≡◌}
use Rattle.block.specs.Line.{added}
use Rattle.block.proofs.line.add.Given as goal

abbrev pub invariant-loop-i : goal.invariant-loop-i
invariant-loop-i l = l.line ≡ added l.i l.new l.initial.line
