-- The fold tests every entry.
use borrow.Author.Rules.{rules}
use Rattle.std.proofs.Common.{tests}
use Rattle.steps.specs.Settings.{is_entry}
use Rattle.state.proofs.FoldLaws.{slice_fold_all}
use Rattle.checks.proofs.lists.all_entries.Goals as goal

pub returns : goal.returns
returns c = slice_fold_all (is_entry c.args.r) c.args.xs.now _ c.fold.ensures.ran (cc) (λ fit x b q k. search (rules, tests))
