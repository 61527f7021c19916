-- The fold tests every exponent of both lists.
use Rattle.std.proofs.Common.{rules, tests}
use Rattle.readings.specs.Readings.{exponent_fits}
use Rattle.readings.proofs.FoldLaws.{zip_fold_all}
use Rattle.readings.proofs.check.exponents_fit.Goals as goal

pub returns : goal.returns
returns c =
    zip_fold_all exponent_fits exponent_fits c.args.xi.now c.args.theta.now _ c.fold.ensures.ran (cc) (cc) c.requires
    (λ fit x b q k. search (rules, tests))
