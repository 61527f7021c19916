-- The fold tests every magnitude of both lists.
use Rattle.std.proofs.Common.{rules, tests}
use Rattle.steps.specs.Fir.{is_below}
use Rattle.readings.specs.Limits.{output_limit, error_limit}
use Rattle.readings.proofs.FoldLaws.{zip_fold_all}
use Rattle.readings.proofs.check.mantissas_fit.Goals as goal

pub returns : goal.returns
returns c =
    zip_fold_all (is_below output_limit) (is_below error_limit) c.args.y.now c.args.z.now _ c.fold.ensures.ran (cc) (cc) c.requires
    (λ fit x b q k. search (rules, tests))
