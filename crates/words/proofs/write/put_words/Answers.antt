-- One number a turn, behind those before it.
use mathlib.Core.Path.{◌≡◌, refl, sym, ap, ap₂, ◌∙◌}
use mathlib.Core.List.{List, ◌++◌}
use Prim.Native.Nat.{ℕ, ◌+◌, ◌*◌, ◌≤◌}
use native.Mathlib.Omega.{arith}
use lib.ListN.{length, get_or}
use lib.IntN.{ℤ, pos}
use mir.Syntax.{w16}
use mir.Val.{of_z}
use mir.Facts.{to_z-of_z}
use Rattle.std.proofs.lemmas.Slice.{take-put_mid}
use Rattle.words.specs.Words.{bytes, words}
use Rattle.words.proofs.ByteLaws.{bytes_length, words_next}
use Rattle.words.proofs.LibraryLaws.{le_bytes_two}
use Rattle.words.proofs.write.put_words.Goals as goal

pub loop-i-init : goal.loop-i-init
unfolding words
loop-i-init c = refl

pub loop-i-preserved : goal.loop-i-preserved
loop-i-preserved c =
    let i = c.loop-i.i in
    let z = get_or c.args.src.now i (pos 0) in
    let z_is = to_z-of_z {w = w16} {z = z} (record { sfits = omega arith }) in
    let new : c.copy_from_slice.new.self ≡ bytes 2 (of_z w16 z) = c.copy_from_slice.ensures.after ∙ c.to_le_bytes.ensures ∙ le_bytes_two _ ∙ ap (λ (x : ℤ). bytes 2 (of_z w16 x)) z_is in
    let room : 2 * i + 2 ≤ length c.loop-i.out = omega arith in
    let more : 2 * (i + 1) ≡ 2 * i + length c.copy_from_slice.new.self = omega (arith, ap length new, bytes_length) in
    take-put_mid (2 * i) _ c.loop-i.out _ (2 * (i + 1)) more (omega arith) ∙ ap₂ (λ (a b : List ℕ). a ++ b) c.loop-i.invariant new
    ∙ sym (words_next w16 c.args.src.now i c.loop-i-test.true)
