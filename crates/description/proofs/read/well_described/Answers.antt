-- The tests of the definition, in its order.
use native.Mathlib.Omega.{arith}
use Rattle.std.proofs.lemmas.Bool.Decides.{nat_tests}
use Rattle.description.specs.Description.{well_described}
use Rattle.description.proofs.read.well_described.Goals as goal

pub returns-then-t-lt-DESCRIPTION_HEADER : goal.returns-then-t-lt-DESCRIPTION_HEADER
unfolding well_described
returns-then-t-lt-DESCRIPTION_HEADER c = grind (arith, nat_tests)

pub returns-then-t-gt-DESCRIPTION : goal.returns-then-t-gt-DESCRIPTION
unfolding well_described
returns-then-t-gt-DESCRIPTION c = grind (arith, nat_tests)

pub returns-then-t-response_count : goal.returns-then-t-response_count
unfolding well_described
returns-then-t-response_count c = grind (arith, nat_tests)

pub returns-else-t-response_count : goal.returns-else-t-response_count
unfolding well_described
returns-else-t-response_count c = grind (arith, nat_tests)
