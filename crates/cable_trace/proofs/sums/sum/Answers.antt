-- The sum of the products passed; each partial sum fits 32 bits.
use mathlib.Core.Path.{◌≡◌, sym, ◌∙◌}
use Prim.Native.Nat.{◌+◌}
use native.Mathlib.Omega.{arith}
use borrow.Author.Rules.{rules}
use lib.ListN.{length, take}
use lib.IntN.{pos, ◌+ℤ◌, ◌*ℤ◌}
use mir.Syntax.{w16, w32}
use mir.Val.{SFits, to_z, of_z}
use mir.Facts.{to_z-of_z}
use Rattle.std.proofs.lemmas.List.{length_push}
use Rattle.std.proofs.lemmas.Slice.Zip.{zip_turn, zip_end}
use Rattle.laws.specs.Machine.{kept}
use Rattle.laws.specs.Sums.{dot, dot_none, dot_turn, dot_all}
use Rattle.cable_trace.proofs.RowLaws.{sum_bound}
use Rattle.cable_trace.proofs.sums.sum.Goals as goal

-- the next partial sum
turn : (c : goal.After-mac-arg-in-loop-h-1) →
    let i = length c.loop-h.yielded in
    to_z w32 c.loop-h.sum-bits +ℤ to_z w16 (of_z w16 c.in-Some.h.now) *ℤ to_z w16 (of_z w16 c.in-Some.v.now)
    ≡ dot (take (i + 1) c.args.h.now) (take (i + 1) c.args.v.now)
turn c =
    let a = c.args in
    let l = c.loop-h in
    let t = zip_turn a.h.now a.v.now l.yielded _ l.h-iterator c.next.new.self _ (cc) (cc) l.yielded_by _ c.in-Some.is c.next.ensures.steps in
    let x : SFits w16 c.in-Some.h.now = search rules in
    let y : SFits w16 c.in-Some.v.now = search rules in
    rw (to_z-of_z x, to_z-of_z y, t.2 (pos 0), t.3 (pos 0)) (dot_turn a.h.now a.v.now (length l.yielded) (to_z w32 l.sum-bits) t.0 t.1 l.invariant.2)

pub loop-h-init : goal.loop-h-init
loop-h-init c = ((tt, tt), tt, sym (dot_none _))

pub mac-sum-requires : goal.mac-sum-requires
mac-sum-requires c = rw (turn c) (omega (arith, sum_bound c.args.h.now c.args.v.now (length c.loop-h.yielded + 1) c.requires))

pub loop-h-preserved : goal.loop-h-preserved
loop-h-preserved c = ((tt, tt), tt, rw length_push (kept w32 c.mac-sum.result c.mac-sum.type_inv ∙ c.mac-sum.ensures ∙ turn c.before))

pub returns : goal.returns
returns c =
    let a = c.args in
    let l = c.loop-h in
    let e = zip_end a.h.now a.v.now l.yielded _ l.h-iterator c.next.new.self _ (cc) (cc) l.yielded_by c.in-None.is c.next.ensures.steps in
    l.invariant.2 ∙ dot_all a.h.now a.v.now (length l.yielded) (omega (arith, e, c.requires.h_long, c.requires.v_long)) (omega (arith, e, c.requires.h_long, c.requires.v_long))
