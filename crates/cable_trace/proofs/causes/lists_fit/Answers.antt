-- The lengths, the symbols, the output's length.
use mathlib.Core.Path.{sym}
use Prim.Native.Nat.{◌≤◌}
use native.Mathlib.Omega.{arith}
use lib.ListN.{length}
use Rattle.std.proofs.lemmas.Bool.Decides.{nat_tests}
use Rattle.std.proofs.lemmas.Result.{err_from_is_err_and}
use Rattle.cable_trace.specs.Calls.{sent_limit}
use Rattle.cable_trace.specs.Cable.{list_cause}
use Rattle.cable_trace.specs.Lent.{cable_in}
use Rattle.cable_trace.specs.Refusal.{cause_of}
use Rattle.cable_trace.proofs.CauseLaws.{lengths_few, length_off, cause_some}
use Rattle.cable_trace.proofs.causes.lists_fit.Goals as goal

few : (c : goal.Else-not-all_symbols) → length c.args.cable.symbols.now ≤ sent_limit
few c = lengths_few (cable_in c.args.cable) (sym c.in_ok-lengths_fit.ensures.cause)

pub returns-in_err-lengths_fit : goal.returns-in_err-lengths_fit
returns-in_err-lengths_fit c =
    let p = err_from_is_err_and c.from_residual.result c.from_residual.ensures.1 in
    let x = c.in_err-lengths_fit.field-0.0 in
    let n = c.in_err-lengths_fit.ensures.number in
    rw (p.1, p.2) record { cause = length_off (cable_in c.args.cable) c.args.room (cause_of x) c.in_err-lengths_fit.ensures.cause (cause_some x n); number = n }

pub returns-then-not-all_symbols : goal.returns-then-not-all_symbols
unfolding list_cause
returns-then-not-all_symbols c = grind (arith, nat_tests)

pub overflow_mul-cable : goal.overflow_mul-cable
overflow_mul-cable c = record { fits = omega (arith, few c) }

pub overflow_add-cable : goal.overflow_add-cable
overflow_add-cable c = record { fits = omega (arith, few c) }

pub returns-then-room-cable : goal.returns-then-room-cable
unfolding list_cause
returns-then-room-cable c = grind (arith, nat_tests)

pub returns-else-room-cable : goal.returns-else-room-cable
unfolding list_cause
returns-else-room-cable c = grind (arith, nat_tests)
