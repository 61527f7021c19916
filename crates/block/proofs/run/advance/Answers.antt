-- The step is asked with parts of the two lines, and what it writes stands there.
use mathlib.Core.Path.{◌≡◌, sym, ap, ◌∙◌}
use Prim.Native.Nat.{suc, ◌+◌, ◌-◌}
use lib.ListN.{length}
use mir.Syntax.{w16}
use mir.Val.{to_z, of_z}
use mir.Facts.{to_z-of_z}
use Rattle.laws.specs.Machine.{kept}
use Rattle.filter.proofs.SampleLaws.{taken_of, taken_put}
use Rattle.block.specs.Line.{place}
use Rattle.block.proofs.LineLaws.{window_part, past_part, written_part}
use Rattle.block.proofs.run.advance.Goals as goal

pub step-requires : goal.step-requires
step-requires c =
    let a = c.args in
    let r = c.requires in
    let entry : to_z w16 (of_z w16 c.from-3.result) ≡ a.entry = kept w16 _ c.from-3.type_inv ∙ c.from-3.ensures ∙ to_z-of_z c.ranges.entry in
    rw (window_part a.k.p a.n a.samples.now c.from.ensures r.room, past_part a.k.q a.n a.symbols.now c.from-2.ensures r.symbols_long r.room, entry) (r.ready, r.largest_bits_at)

pub returns-clause-sample : goal.returns-clause-sample
returns-clause-sample c =
    let a = c.args in
    let r = c.requires in
    let entry : to_z w16 (of_z w16 c.from-3.result) ≡ a.entry = kept w16 _ c.from-3.type_inv ∙ c.from-3.ensures ∙ to_z-of_z c.ranges.entry in
    let t = taken_of (window_part a.k.p a.n a.samples.now c.from.ensures r.room) (past_part a.k.q a.n a.symbols.now c.from-2.ensures r.symbols_long r.room) entry c.step.ensures.sample in
    taken_put (sym (written_part a.k.q a.n (place a.n + c.from-2.result + 1 - place a.n) a.symbols.now _ r.symbols_long r.room (ap length t.symbols_are ∙ ap suc r.ready.fit.symbols_long))) t
