use Rattle.std.proofs.Common.{rules, ℤ}
use Rattle.std.proofs.lemmas.List.Edits.{map_over_more}
use Rattle.numbers.specs.Cut.{raise}
use Rattle.steps.proofs.weights.double.Goals as goal

pub loop-x-preserved : goal.loop-x-preserved
loop-x-preserved c = search (rules, map_over_more (λ (x : ℤ). raise x 1))
