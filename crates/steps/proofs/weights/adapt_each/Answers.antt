-- The weights passed are the new ones, the others are still the old ones, and the bits seen are those of the new ones.
use Rattle.std.proofs.Common.{◌≢◌, arith, rules, refl, le_refl, get_or-set_other}
use Rattle.steps.proofs.FirLaws.{adapting_none, adapting_next, adapting_all}
use Rattle.steps.proofs.weights.adapt_each.Goals as goal

pub loop-i-init : goal.loop-i-init
loop-i-init g c = (λ n h. refl, λ k m. adapting_none k _ _)

pub new-requires : goal.new-requires
new-requires g c =
    let e = c.loop-i.invariant.0 c.loop-i.i (le_refl _) in
    let p = c.requires.1 c.loop-i.i (omega arith) in
    search (rules, e, p)

pub loop-i-preserved : goal.loop-i-preserved
loop-i-preserved g c =
    let l = c.loop-i in
    let e = l.invariant.0 l.i (le_refl _) in (
      λ n h. let ne : n ≢ l.i = omega arith in rw get_or-set_other (l.invariant.0 n (omega arith)),
      λ k m. adapting_next k c.args.a.now (l.invariant.1 k m) _ _ (omega arith) (omega arith) (m l.i _ (omega arith) (search (rules, e))) (search rules),
    )

pub returns : goal.returns
returns g c = λ k m. adapting_all k c.args.a.now (c.loop-i.invariant.1 k m) (omega arith)
