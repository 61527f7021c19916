-- No digit of the new symbol is left above r, or one is.
use borrow.Author.Rules.{rules}
use Rattle.filter.proofs.DelayLaws.{delay_more, delay_none}
use Rattle.filter.proofs.sample.next_delay.Goals as goal

pub returns-then-unsigned_abs-from-eq0 : goal.returns-then-unsigned_abs-from-eq0
returns-then-unsigned_abs-from-eq0 c = search (rules, delay_more)

pub returns-else-unsigned_abs-from-eq0 : goal.returns-else-unsigned_abs-from-eq0
returns-else-unsigned_abs-from-eq0 c = search (rules, delay_none)
