-- The block is run on the parts of the state, and what it leaves is the next state where ψ kept its limit.
use mathlib.Core.Path.{◌≡◌}
use native.Mathlib.Omega.{arith}
use lib.IntN.{ℤ}
use lib.ListN.{length, length-set}
use borrow.Author.Rules.{rules}
use Rattle.station.proofs.RunLaws.{lent_runnable, lent_stopped, samples_long, symbols_long, joined_room, lent_bytes, lent_finished}
use Rattle.station.proofs.run.run_checked.Goals as goal

pub run-r-requires : goal.run-r-requires
run-r-requires c = search (rules, lent_runnable)

pub returns-then-r-gt-EXPONENT-clause-run : goal.returns-then-r-gt-EXPONENT-clause-run
returns-then-r-gt-EXPONENT-clause-run c = search (rules, lent_stopped)

pub slice_set_of-samples : goal.slice_set_of-samples
slice_set_of-samples c =
    let n : length c.run-r.new.memory.samples.now ≡ c.args.e.p = search (rules, samples_long) in
    omega (arith, c.requires.0.sound.within.p_least)

pub joined-weights-requires : goal.joined-weights-requires
joined-weights-requires c = search (rules, joined_room)

pub joined-past-requires : goal.joined-past-requires
joined-past-requires c =
    let w = c.requires.0.sound.within in
    let n : length c.run-r.new.memory.samples.now ≡ c.args.e.p = search (rules, samples_long) in
    let m : length c.run-r.new.memory.symbols.now ≡ c.args.e.q = search (rules, symbols_long) in
    omega (arith, length-set {A = ℤ}, w.p_most, w.q_most)

pub next-requires : goal.next-requires
next-requires c = search (rules, lent_bytes)

pub returns-clause-run : goal.returns-clause-run
returns-clause-run c = search (rules, lent_finished)
