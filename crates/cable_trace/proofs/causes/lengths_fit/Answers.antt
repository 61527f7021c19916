-- Each length in its turn.
use native.Mathlib.Omega.{arith}
use Rattle.std.proofs.lemmas.Bool.Decides.{nat_tests}
use Rattle.cable_trace.specs.Cable.{length_cause}
use Rattle.cable_trace.proofs.causes.lengths_fit.Goals as goal

pub returns-then-not-response_fits : goal.returns-then-not-response_fits
unfolding length_cause
returns-then-not-response_fits c = grind (arith, nat_tests)

pub returns-then-not-blocks_fit : goal.returns-then-not-blocks_fit
unfolding length_cause
returns-then-not-blocks_fit c = grind (arith, nat_tests)

pub returns-then-count-cable : goal.returns-then-count-cable
unfolding length_cause
returns-then-count-cable c = grind (arith, nat_tests)

pub returns-then-count-gt-SENT : goal.returns-then-count-gt-SENT
unfolding length_cause
returns-then-count-gt-SENT c = grind (arith, nat_tests)

pub returns-else-count-gt-SENT : goal.returns-else-count-gt-SENT
unfolding length_cause
returns-else-count-gt-SENT c = grind (arith, nat_tests)
