-- One word a turn, into the next of the slots.
use mathlib.Core.Path.{ap, ◌∙◌}
use Prim.Native.Nat.{◌*◌}
use native.Mathlib.Omega.{arith}
use mir.Syntax.{w16}
use mir.Val.{to_z}
use Rattle.laws.specs.Machine.{kept}
use Rattle.words.proofs.LibraryLaws.{number_two}
use Rattle.image.proofs.WordLaws.{worded_next, worded_all}
use Rattle.image.proofs.load.words_in.Goals as goal

pub loop-i-preserved : goal.loop-i-preserved
loop-i-preserved c =
    let bytes = c.args.bytes.now in
    let l = c.loop-i in
    worded_next w16 c.args.n bytes c.requires.1 l.i l.out _ (omega arith) l.invariant
    (kept w16 c.from_le_bytes.result c.from_le_bytes.type_inv ∙ c.from_le_bytes.ensures ∙ ap (to_z w16) (number_two bytes (2 * l.i)))

pub returns : goal.returns
returns c = worded_all w16 c.args.n c.args.bytes.now c.requires.1 c.loop-i.i c.loop-i.out (omega arith) c.loop-i.invariant
