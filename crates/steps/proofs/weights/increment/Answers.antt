-- What is gained is below half of 2^weight_unit, so it fits 16 bits with a sign.
use Rattle.std.proofs.Common.{rules}
use Rattle.steps.proofs.IncrementLaws.{increment_small}
use Rattle.steps.proofs.weights.increment.Goals as goal

pub returns : goal.returns
returns c = search (rules, increment_small)

pub overflow_cast-result-2 : goal.overflow_cast-result-2
overflow_cast-result-2 c = search (rules, increment_small)
