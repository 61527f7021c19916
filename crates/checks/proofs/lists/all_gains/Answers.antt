-- The fold tests every gain.
use borrow.Author.Rules.{rules}
use Rattle.std.proofs.Common.{tests}
use Rattle.state.proofs.FoldLaws.{slice_fold_all}
use Rattle.checks.specs.Checks.{gain_fits}
use Rattle.checks.proofs.lists.all_gains.Goals as goal

pub returns : goal.returns
returns c = slice_fold_all (gain_fits c.args.l) c.args.gains.now _ c.fold.ensures.ran (cc) (λ fit x b q k. search (rules, tests))
