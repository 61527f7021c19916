use mir.Syntax.{w16}
use Rattle.image.proofs.WordLaws.{Worded}
use Rattle.image.proofs.load.words_in.Given as goal

abbrev pub invariant-loop-i : goal.invariant-loop-i
invariant-loop-i l = Worded w16 l.n l.bytes l.i l.out
