-- The number, then the byte behind it.
use mathlib.Core.Path.{◌≡◌, ap}
use native.Mathlib.Omega.{arith}
use mir.Syntax.{w32}
use mir.Val.{to_z, of_z}
use mir.Facts.{to_z-of_z}
use Rattle.trace_text.specs.Decimal.{signed_decimal}
use Rattle.trace_text.proofs.LineLaws.{field_room, last_room, field_written}
use Rattle.trace_text.proofs.line.Text.field.Goals as goal
use Rattle.trace_text.proofs.line.Text.field.Goals.{Start}

same : (c : Start) → signed_decimal (to_z w32 (of_z w32 c.args.z)) ≡ signed_decimal c.args.z
same c = ap signed_decimal (to_z-of_z c.ranges.z)

pub number-requires : goal.number-requires
number-requires c = let a = c.args in field_room a.z a.last a.self.now.end a.self.now.out.now (same (goal.at.number-requires c).Start) c.requires

pub byte-requires : goal.byte-requires
byte-requires c =
    let a = c.args in
    omega (arith, last_room a.z a.last a.self.now.end a.self.now.out.now (same (goal.at.byte-requires c).Start) c.requires c.number.ensures.text)

pub returns-clause-text : goal.returns-clause-text
returns-clause-text c =
    let a = c.args in
    field_written a.z a.last a.self.now.end a.self.now.out.now (same (goal.at.returns-clause-text c).Start) c.requires c.number.ensures.text c.byte.ensures.text
