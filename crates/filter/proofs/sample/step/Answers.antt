-- The four parts of a step, each met by what the part before it promised.
use mathlib.Core.Path.{refl}
use Rattle.filter.proofs.SampleLaws.{past, past_kept}
use Rattle.filter.proofs.StepLaws.{bounds, decision_bounds_of, decided, change_bounds_of, handable_of, result_placed}
use Rattle.filter.proofs.sample.step.Goals as goal

pub filter_output-h-requires : goal.filter_output-h-requires
filter_output-h-requires c = rw (c.read.ensures.0, c.read.ensures.1) (bounds c.requires.0 c.from-r.ensures c.requires.1 (past c.args.symbols.now))

pub decision_error-j-requires : goal.decision_error-j-requires
decision_error-j-requires c = decision_bounds_of c.requires.0 c.from-r.ensures (past c.args.symbols.now) (rw (c.read.ensures.0, c.read.ensures.1) at c.filter_output-h.ensures)

pub change-next-requires : goal.change-next-requires
change-next-requires c =
    let h = rw (c.read.ensures.0, c.read.ensures.1) at c.filter_output-h.ensures in
    let d = decided c.requires.0 c.from-r.ensures (past c.args.symbols.now) h c.decision_error-j.ensures in
    change_bounds_of c.requires.0 d (past_kept c.args.symbols.now _)

pub result_of-requires : goal.result_of-requires
result_of-requires c =
    let h = rw (c.read.ensures.0, c.read.ensures.1) at c.filter_output-h.ensures in
    handable_of c.requires.0 (decided c.requires.0 c.from-r.ensures (past c.args.symbols.now) h c.decision_error-j.ensures)

pub returns-clause-sample : goal.returns-clause-sample
returns-clause-sample c =
    let h = rw (c.read.ensures.0, c.read.ensures.1) at c.filter_output-h.ensures in
    let d = decided c.requires.0 c.from-r.ensures (past c.args.symbols.now) h c.decision_error-j.ensures in
    result_placed c.requires.0 d c.args.symbols.now refl (past_kept c.args.symbols.now _) c.change-next.ensures.changed c.result_of.ensures
