-- The three parts of the definition, each by its own contract.
use Rattle.std.proofs.Common.{rules}
use Rattle.steps.specs.Decision.{decide}
use Rattle.steps.proofs.decision.decide.Goals as goal

pub returns : goal.returns
unfolding decide
returns c = search rules
