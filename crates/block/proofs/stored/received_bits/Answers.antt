-- The bits of the magnitudes passed, one more a turn.
use mathlib.Core.Path.{ap, ◌∙◌}
use native.Mathlib.Omega.{arith}
use lib.ListN.{length}
use lib.IntN.{nat_abs}
use Rattle.std.proofs.lemmas.List.{length_push}
use Rattle.std.proofs.lemmas.Slice.Zip.{zip_turn, zip_end}
use Rattle.steps.proofs.LargestLaws.{seen_none, seen_next, seen_all}
use Rattle.block.specs.Block.{received_all}
use Rattle.block.proofs.ReceivedLaws.{received_length, received_kept, received_turn}
use Rattle.block.proofs.stored.received_bits.Goals as goal

pub loop-m-init : goal.loop-m-init
loop-m-init c = ((tt, tt), tt, seen_none (received_all c.args.m.now c.args.gains.now))

pub loop-m-preserved : goal.loop-m-preserved
loop-m-preserved c =
    let a = c.args in
    let l = c.loop-m in
    let t = zip_turn a.m.now a.gains.now l.yielded _ l.m-iterator c.next.new.self _ (cc) (cc) l.yielded_by _ c.in-Some.is c.next.ensures.steps in
    let e = received_kept c.in-Some.m.now c.in-Some.g.now (omega arith) c.received.type_inv c.received.ensures ∙ received_turn a.m.now a.gains.now (length l.yielded) t in
    ((tt, tt), tt, rw length_push (seen_next (received_all a.m.now a.gains.now) (length l.yielded) l.seen _ l.invariant.2 (c.unsigned_abs-seen.ensures.value ∙ ap nat_abs e)))

pub returns : goal.returns
returns c =
    let a = c.args in
    let l = c.loop-m in
    let t = zip_end a.m.now a.gains.now l.yielded _ l.m-iterator c.next.new.self _ (cc) (cc) l.yielded_by c.in-None.is c.next.ensures.steps in
    seen_all (received_all a.m.now a.gains.now) (length l.yielded) l.seen l.invariant.2 (omega (arith, received_length a.m.now a.gains.now c.requires.same_length))
