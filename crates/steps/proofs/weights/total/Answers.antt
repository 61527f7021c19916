-- The total is the sum of the products passed, and each partial sum fits 32 bits.
use Rattle.std.proofs.Common.{◌≡◌, ◌∙◌, ◌+◌, arith, rules, length, take, length-append, pos, ◌+ℤ◌, ◌*ℤ◌, w16, w32, to_z, of_z}
use Rattle.std.proofs.lemmas.Slice.Zip.{zip_turn, zip_end}
use Rattle.laws.specs.Sums.{dot, dot_none, dot_turn, dot_all}
use Rattle.steps.proofs.FirLaws.{sum_bound}
use Rattle.steps.proofs.weights.total.Goals as goal

pub loop-w-init : goal.loop-w-init
loop-w-init c = search (rules, dot_none)

-- one product more
turn : (c : goal.After-mac-arg-in-loop-w-1) →
    let i = length c.loop-w.yielded in
    to_z w32 c.loop-w.total-bits +ℤ to_z w16 (of_z w16 c.in-Some.w.now) *ℤ to_z w16 (of_z w16 c.in-Some.a.now)
    ≡ dot (take (i + 1) c.args.w.now) (take (i + 1) c.args.a.now)
turn c =
    let l = c.loop-w in
    let t = zip_turn c.args.w.now c.args.a.now l.yielded c.into_iter-w-iterator.result l.w-iterator c.next.new.self _ (search rules) (search rules) l.yielded_by _ c.in-Some.is c.next.ensures.steps in
    let w = t.2 (pos 0) in
    let a = t.3 (pos 0) in
    let sum = dot_turn c.args.w.now c.args.a.now (length l.yielded) (to_z w32 l.total-bits) t.0 t.1 (search rules) in
    search (rules, w, a, sum)

pub mac-total-requires : goal.mac-total-requires
mac-total-requires c = rw (turn c) (sum_bound c.args.w.now c.args.a.now (length c.loop-w.yielded + 1) c.requires)

pub loop-w-preserved : goal.loop-w-preserved
loop-w-preserved c = let sum = turn c.before in search (rules, sum, length-append)

pub returns : goal.returns
returns c =
    let l = c.loop-w in
    let e = zip_end c.args.w.now c.args.a.now l.yielded c.into_iter-w-iterator.result l.w-iterator c.next.new.self _ (search rules) (search rules) l.yielded_by c.in-None.is c.next.ensures.steps in
    let most = c.requires.same_length in
    l.invariant.2 ∙ dot_all c.args.w.now c.args.a.now (length l.yielded) (omega arith) (omega arith)
