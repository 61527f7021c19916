use Rattle.std.proofs.Common.{◌≡◌}
use Rattle.readings.specs.Readings.{lists_of}
use Rattle.readings.specs.Calls.{power_table}
use Rattle.readings.proofs.ListLaws.{Filled}
use Rattle.readings.proofs.fill.fill.Given as goal

abbrev pub invariant-loop-i : goal.invariant-loop-i
invariant-loop-i l = (l.table ≡ power_table) × Filled (lists_of l.y l.xi l.z l.theta) l.initial.out l.i l.out l.s
