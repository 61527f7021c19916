-- The fold tests every element.
use borrow.Author.Rules.{rules}
use Rattle.std.proofs.Common.{tests}
use Rattle.steps.specs.Settings.{is_entry}
use Rattle.state.proofs.FoldLaws.{slice_fold_all}
use Rattle.state.proofs.sound.all_symbols.Goals as goal

pub returns : goal.returns
returns c = slice_fold_all (is_entry c.args.r) c.args.xs.now _ c.fold.ensures.ran (cc) (λ fit x b q k. search (rules, tests))
