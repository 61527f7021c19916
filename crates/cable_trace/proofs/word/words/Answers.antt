-- One s a turn.
use mathlib.Core.Path.{◌≡◌, sym, ap, ◌∙◌}
use borrow.Author.Rules.{rules}
use lib.ListN.{get_or, length-map, get_or-map}
use lib.IntN.{ℤ, pos}
use mir.Syntax.{w32}
use mir.Val.{SFits, to_z, of_z}
use mir.Facts.{to_z-of_z}
use Rattle.laws.specs.Loops.{written_read, written_next, written_all}
use Rattle.laws.specs.Machine.{kept}
use Rattle.laws.specs.Sums.{each_at}
use Rattle.cable_trace.specs.Calls.{Gainable, sample_word}
use Rattle.cable_trace.proofs.word.words.Goals as goal

-- the s that is read
read : (c : goal.After-word-arg-1) → to_z w32 (of_z w32 (get_or c.loop-s.s-items c.loop-s.s-index (pos 0))) ≡ get_or c.args.sums.now c.loop-s.s-index (pos 0)
read c =
    let l = c.loop-s in
    let f : SFits w32 (get_or l.s-items l.s-index (pos 0)) = search rules in
    to_z-of_z f ∙ written_read l.invariant (pos 0)

pub word-requires : goal.word-requires
word-requires c = rw (read c) (each_at (Gainable c.args.r) c.args.sums.now c.loop-s.s-index (pos 0) c.requires c.loop-s-test.true)

pub loop-s-preserved : goal.loop-s-preserved
loop-s-preserved c =
    let a = c.args in
    let l = c.loop-s in
    let h = c.loop-s-test.true in
    let w = λ (s : ℤ). pos (sample_word a.r s) in
    written_next l.invariant (w (pos 0)) _ (rw length-map h) h
    (kept w32 c.word.result c.word.type_inv ∙ c.word.ensures ∙ ap w (read c.before) ∙ sym (get_or-map w a.sums.now l.s-index (pos 0)))

pub returns : goal.returns
returns c = written_all c.loop-s.invariant (length-map c.args.sums.now _) c.loop-s-test.false
