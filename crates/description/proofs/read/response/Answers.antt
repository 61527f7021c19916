-- One value a turn, into the next place.
use mathlib.Core.Path.{refl, ◌∙◌, ap}
use Prim.Native.Nat.{◌+◌, ◌*◌}
use lib.IntN.{pos}
use mir.Syntax.{w16}
use mir.Val.{to_z}
use Rattle.laws.specs.Machine.{kept}
use Rattle.laws.specs.Values.{values_written, values_all}
use Rattle.words.proofs.LibraryLaws.{number_two}
use Rattle.description.specs.Description.{description_header_length}
use Rattle.description.proofs.read.response.Goals as goal

pub loop-i-preserved : goal.loop-i-preserved
loop-i-preserved c =
    let e = c.from_le_bytes.ensures ∙ ap (to_z w16) (number_two c.args.t.now (description_header_length + 2 * c.loop-i.i)) in
    values_written _ _ c.loop-i.invariant (pos 0) _ c.loop-i-test.true c.loop-i-test.true (kept w16 _ c.from_le_bytes.type_inv ∙ e)

pub returns : goal.returns
returns c = values_all _ _ c.loop-i.invariant refl c.loop-i-test.false
