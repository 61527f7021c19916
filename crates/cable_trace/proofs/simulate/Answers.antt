-- The settings, the lists and the gains, one after another.
use mathlib.Core.Path.{sym}
use Rattle.std.proofs.lemmas.Result.{err_from_is_err_and}
use Rattle.state.proofs.SizesLaws.{settings_tests, fit_within}
use Rattle.cable_trace.specs.Lent.{cable_in}
use Rattle.cable_trace.proofs.CauseLaws.{settings_off, lists_off}
use Rattle.cable_trace.proofs.simulate.Goals as goal

pub returns-in_err-admitted : goal.returns-in_err-admitted
returns-in_err-admitted c =
    let p = err_from_is_err_and c.from_residual.result c.from_residual.ensures.1 in
    rw (p.1, p.2) (settings_off (cable_in c.args.cable) c.args.out.now c.in_err-admitted.field-0.0 c.in_err-admitted.ensures)

pub lists_fit-requires : goal.lists_fit-requires
lists_fit-requires c =
    let k = c.args.cable.settings in
    let w = fit_within k (settings_tests k (sym c.in_ok-admitted.ensures)).0 in
    (w.N_least, w.r_most)

pub returns-in_err-lists_fit : goal.returns-in_err-lists_fit
returns-in_err-lists_fit c =
    let p = err_from_is_err_and c.from_residual-in_err-lists_fit.result c.from_residual-in_err-lists_fit.ensures.1 in
    let f = c.in_err-lists_fit.ensures in
    rw (p.1, p.2) (lists_off (cable_in c.args.cable) c.args.out.now (sym c.in_ok-admitted.ensures) c.in_err-lists_fit.field-0.0 f.number f.cause)

pub make-requires : goal.make-requires
make-requires c = record { settings = sym c.in_ok-admitted.ensures; lists = sym c.in_ok-lists_fit.ensures.cause }
