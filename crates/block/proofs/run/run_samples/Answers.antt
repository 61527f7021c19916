-- The samples one by one: when n are done, everything is as the definitions have it.
use native.Mathlib.Omega.{arith}
use borrow.Author.Rules.{rules}
use mir.Syntax.{w8, w16}
use Rattle.laws.specs.Machine.{kept}
use Rattle.block.proofs.RunLaws.{stored_as, passed_none, delay_room, finished, advanceable, passed_next, stopped}
use Rattle.block.proofs.run.run_samples.Goals as goal

pub loop-n-init : goal.loop-n-init
loop-n-init c = record {
  lists = search rules;
  outputs = search rules;
  passed = λ o i b. passed_none b;
}

pub advance-t-requires : goal.advance-t-requires
advance-t-requires c =
    let r = c.requires in
    advanceable r.begun (c.loop-n.invariant.passed r.o r.i r.begun) c.loop-n-test.true (kept w8 _ (omega arith))

pub next_delay-delay-requires : goal.next_delay-delay-requires
next_delay-delay-requires c = let r = c.requires in delay_room r.begun (c.loop-n.invariant.passed r.o r.i r.begun)

pub returns-then-at-gt-EXPONENT-clause-progress : goal.returns-then-at-gt-EXPONENT-clause-progress
returns-then-at-gt-EXPONENT-clause-progress c o i b =
    stopped b (c.loop-n.invariant.passed o i b) c.loop-n-test.true (kept w8 _ (omega arith)) c.advance-t.new.symbols c.advance-t.ensures.sample c.advance-t.array_long
    (stored_as (omega arith) (omega arith) (omega arith)) c.if-at-gt-EXPONENT.true

pub loop-n-preserved : goal.loop-n-preserved
loop-n-preserved c = record {
  lists = search rules;
  outputs = search rules;
  passed = λ o i b.
      passed_next b (c.loop-n.invariant.passed o i b) c.loop-n-test.true (kept w8 _ (omega arith)) c.advance-t.new.symbols c.advance-t.ensures.sample c.advance-t.array_long
      (stored_as (omega arith) (omega arith) (omega arith)) c.if-at-gt-EXPONENT.false
      (kept w16 _ (omega arith)) c.next_delay-delay.ensures;
}

pub returns-clause-progress : goal.returns-clause-progress
returns-clause-progress c o i b = finished b (c.loop-n.invariant.passed o i b) c.loop-n-test.false
