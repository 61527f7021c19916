-- One reading and one error more a turn.
use native.Mathlib.Omega.{arith}
use Rattle.std.proofs.Common.{rules}
use Rattle.readings.specs.Lent.{lists_in}
use Rattle.readings.proofs.ListLaws.{exponent_at, filled_none, filled_small, filled_next, filled_all}
use Rattle.readings.proofs.fill.fill.Goals as goal

pub loop-i-init : goal.loop-i-init
loop-i-init c = (c.powers-table.ensures, filled_none (lists_in c.args.lists) c.args.out.now)

pub with_error-s-requires : goal.with_error-s-requires
with_error-s-requires c =
    (filled_small c.requires c.loop-i.invariant.1 (omega arith), (exponent_at c.args.lists.theta.now c.loop-i.i c.requires.theta_fit (omega arith)).1)

pub loop-i-preserved : goal.loop-i-preserved
loop-i-preserved c =
    (c.loop-i.invariant.0, filled_next c.requires c.loop-i.invariant.1 (omega arith) c.reading_of-r.result c.with_error-s.result (search rules) (search rules))

pub returns : goal.returns
returns c = filled_all c.requires c.loop-i.invariant.1 (omega arith)
