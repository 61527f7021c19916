-- The gain is subtracted where one of j and a is negative, and the new weight fits 16 bits.
use Rattle.std.proofs.Common.{rules}
use Rattle.steps.proofs.IncrementLaws.{alike_adapted, unlike_adapted, raised_fits}
use Rattle.steps.proofs.weights.adapted_by_size.Goals as goal

pub overflow_sub-result : goal.overflow_sub-result
overflow_sub-result c = search (rules, unlike_adapted, raised_fits)

pub overflow_add-result : goal.overflow_add-result
overflow_add-result c = search (rules, alike_adapted, raised_fits)

pub returns-then-a-j : goal.returns-then-a-j
returns-then-a-j c = search (rules, unlike_adapted, raised_fits)

pub returns-else-a-j : goal.returns-else-a-j
returns-else-a-j c = search (rules, alike_adapted, raised_fits)
