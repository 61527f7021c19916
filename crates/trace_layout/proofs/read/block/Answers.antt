-- One sample a turn, with its gain and its training entry, into the next place of each list.
use mathlib.Core.Path.{refl, ap, ◌∙◌}
use Prim.Native.Nat.{ℕ, ◌+◌, ◌≤◌, ◌<◌}
use native.Mathlib.Omega.{arith}
use lib.ListN.{length, get_or}
use lib.IntN.{pos}
use mir.Syntax.{w8, w16}
use mir.Val.{to_z}
use Rattle.laws.specs.Machine.{kept}
use Rattle.laws.specs.Values.{values_written, values_all}
use Rattle.words.proofs.LibraryLaws.{number_two}
use Rattle.trace_layout.specs.Trace.{sample_start}
use Rattle.trace_layout.proofs.read.block.Goals as goal

pub loop-i-preserved : goal.loop-i-preserved
loop-i-preserved c =
    let l = c.loop-i in
    let t = c.args.t.now in
    let n = c.args.first + l.i in
    let h : l.i < length c.args.m.now = omega arith in (
      values_written _ _ l.invariant.0 (pos 0) _ h h (kept w16 _ c.from_le_bytes.type_inv ∙ c.from_le_bytes.ensures ∙ ap (to_z w16) (number_two t (sample_start n))),
      values_written _ _ l.invariant.1 0 _ h (omega arith) refl,
      values_written _ _ l.invariant.2 (pos 0) _ h (omega arith)
          (kept w8 _ c.cast_signed.type_inv ∙ c.cast_signed.ensures ∙ ap (λ (k : ℕ). to_z w8 (get_or t (sample_start k + n) 0)) c.samples.ensures),
    )

pub returns : goal.returns
returns c =
    let l = c.loop-i in
    let done : length c.args.m.now ≤ l.i = omega arith in
    record {
      m_is = values_all _ _ l.invariant.0 refl done;
      gains_is = values_all _ _ l.invariant.1 c.requires.gains_long done;
      entries_is = values_all _ _ l.invariant.2 c.requires.entries_long done;
    }
