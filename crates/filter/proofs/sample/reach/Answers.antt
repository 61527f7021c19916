-- A symbol of the largest bit length that there can be, or a search.
use Rattle.filter.proofs.DelayLaws.{reached}
use Rattle.filter.proofs.sample.reach.Goals as goal

pub returns-then-delay-symbols : goal.returns-then-delay-symbols
returns-then-delay-symbols c = reached c.requires c.if-delay-symbols.true
