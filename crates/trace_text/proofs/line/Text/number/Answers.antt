-- The sign of a negative number, then the digits of its size.
use mathlib.Core.Path.{◌≡◌, sym, ap, ◌∙◌}
use mathlib.Core.List.{List, [], ◌∷◌, ◌++◌}
use Prim.Native.Nat.{ℕ}
use native.Mathlib.Omega.{arith}
use lib.ListN.{length}
use lib.IntN.{pos, nat_abs}
use lib.Signed.{◌<ℤ◌}
use mir.Facts.{to_z-of_z}
use Rattle.laws.specs.Machine.{lt_tested, lt_refuted}
use Rattle.trace_text.specs.Decimal.{decimal, signed_decimal}
use Rattle.trace_text.specs.Calls.{TextAt}
use Rattle.trace_text.proofs.DecimalLaws.{signed_below, signed_whole}
use Rattle.trace_text.proofs.TextAtLaws.{text_none, text_same, text_room, text_then}
use Rattle.trace_text.proofs.line.Text.number.Goals as goal
use Rattle.trace_text.proofs.line.Text.number.Goals.{After-unsigned_abs, then-z-lt0, else-z-lt0}

pub byte-requires : goal.byte-requires
byte-requires c =
    let below : c.args.z <ℤ pos 0 = lt_tested (rw (to_z-of_z c.ranges.z) at c.if-z-lt0.true) in
    omega (arith, ap length (signed_below c.args.z below), c.requires)

-- the text in front of the digits
front : (c : After-unsigned_abs) →
    (s : List ℕ) × (signed_decimal c.args.z ≡ s ++ decimal (nat_abs c.args.z)) × TextAt c.args.self.now.end s c.args.self.now.out.now c.if-z-lt0.self.end c.if-z-lt0.self.out.now
front c = elim c.if-z-lt0.branch [
  | then-z-lt0 w ↦ (45 ∷ [], signed_below c.args.z (lt_tested (rw (to_z-of_z c.ranges.z) at w.if-z-lt0.true)), rw w.self-is w.byte.ensures.text)
  | else-z-lt0 w ↦ ([], signed_whole c.args.z (lt_refuted (rw (to_z-of_z c.ranges.z) at w.if-z-lt0.false)), rw w.self-is (text_none _ _))
]

size : (c : After-unsigned_abs) → c.unsigned_abs.result ≡ nat_abs c.args.z
size c = c.unsigned_abs.ensures.value ∙ ap nat_abs (to_z-of_z c.ranges.z)

pub digits-requires : goal.digits-requires
digits-requires c =
    let at = (goal.at.digits-requires c).After-unsigned_abs in
    let f = front at in
    rw (size at) (text_room f.2 (decimal (nat_abs c.args.z)) (omega (arith, ap length f.1, c.requires)))

pub returns-clause-text : goal.returns-clause-text
returns-clause-text c =
    let at = (goal.at.returns-clause-text c).After-unsigned_abs in
    let f = front at in
    text_same (sym f.1) (text_then f.2 (omega (arith, c.requires)) (text_same (ap decimal (size at)) c.digits.ensures.text))
