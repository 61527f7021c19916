-- The first digit is not among the bits.
use borrow.Author.Rules.{rules}
use Rattle.cable_trace.proofs.FloatLaws.{leading_whole, leading_negative}
use Rattle.cable_trace.proofs.word.leading.Goals as goal

pub returns-then-s-lt0 : goal.returns-then-s-lt0
returns-then-s-lt0 c = search (rules, leading_negative)

pub returns-else-s-lt0 : goal.returns-else-s-lt0
returns-else-s-lt0 c = search (rules, leading_whole)
