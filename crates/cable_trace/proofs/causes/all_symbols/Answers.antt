-- The fold tests every element.
use borrow.Author.Rules.{rules}
use Rattle.std.proofs.Common.{tests}
use Rattle.steps.specs.Settings.{is_symbol}
use Rattle.state.proofs.FoldLaws.{slice_fold_all}
use Rattle.cable_trace.proofs.causes.all_symbols.Goals as goal

pub returns : goal.returns
returns c = slice_fold_all (is_symbol c.args.r) c.args.xs.now _ c.fold.ensures.ran (cc) (λ fit x b q k. search (rules, tests))
