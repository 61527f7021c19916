use Rattle.std.proofs.Common.{arith, rules, ◌-◌}
use Rattle.numbers.specs.Cut.{raise}
use Rattle.steps.specs.Limits.{data_unit}
use Rattle.steps.proofs.IncrementLaws.{raised_room}
use Rattle.steps.proofs.FirLaws.{adapt_room}
use Rattle.steps.proofs.weights.adapt.Goals as goal

pub adapt_each-requires : goal.adapt_each-requires
adapt_each-requires c = (omega (arith, c.requires.same_length), λ i h. let r = adapt_room c.requires i h in search (rules, r, raised_room))

pub adapt_each-requires-else-w-le-FEW : goal.adapt_each-requires-else-w-le-FEW
adapt_each-requires-else-w-le-FEW c = (omega (arith, c.requires.same_length), λ i h. let r = adapt_room c.requires i h in search (rules, r))

pub returns-then-w-le-FEW : goal.returns-then-w-le-FEW
returns-then-w-le-FEW c = c.adapt_each.ensures (raise c.args.j (data_unit - c.args.t)) (λ i x h p. search rules)

pub returns-else-w-le-FEW : goal.returns-else-w-le-FEW
returns-else-w-le-FEW c = c.adapt_each-else-w-le-FEW.ensures (raise c.args.j (data_unit - c.args.t)) (λ i x h p. search rules)
