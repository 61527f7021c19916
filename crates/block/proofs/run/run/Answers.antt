-- The run of a block: its exponents, its two lines, its samples, and the newest of both lines.
use mathlib.Core.Path.{refl}
use native.Mathlib.Omega.{arith}
use borrow.Author.Rules.{rules}
use Rattle.block.specs.Calls.{memory_in}
use Rattle.block.specs.Lists.{block_in}
use Rattle.block.proofs.RunStart.{zeros, exponents_of, window_storable, window_long, fill_bounds, begun_on}
use Rattle.block.proofs.RunLaws.{count_room, block_result}
use Rattle.block.proofs.run.run.Goals as goal

pub rescale_all-requires : goal.rescale_all-requires
rescale_all-requires c = window_storable (exponents_of c.begin-e.ensures) c.requires

pub fill-requires : goal.fill-requires
fill-requires c = fill_bounds (exponents_of c.begin-e.ensures) c.requires c.rescale_all.ensures (search rules) refl

pub run_samples-r-requires : goal.run_samples-r-requires
run_samples-r-requires c = record {
  o = memory_in c.args.memory.now;
  i = block_in c.args.block;
  begun = begun_on (exponents_of c.begin-e.ensures) c.requires c.rescale_all.ensures zeros refl c.fill.ensures.1 zeros refl c.start.ensures;
}

-- ---- the newest of both lines
pub newest-requires : goal.newest-requires
newest-requires c =
    let r = c.requires in
    let e = exponents_of c.begin-e.ensures in
    let p = c.run_samples-r.ensures.progress _ _ (begun_on e r c.rescale_all.ensures zeros refl c.fill.ensures.1 zeros refl c.start.ensures) in
    (count_room p r.sound.within.N_most, omega (arith, window_long e r c.rescale_all.ensures, r.sound.within.p_most))

pub newest-requires-2 : goal.newest-requires-2
newest-requires-2 c =
    let r = c.requires in
    let e = exponents_of c.begin-e.ensures in
    let p = c.run_samples-r.ensures.progress _ _ (begun_on e r c.rescale_all.ensures zeros refl c.fill.ensures.1 zeros refl c.start.ensures) in
    (count_room p r.sound.within.N_most, omega (arith, r.sound.symbols_long, r.sound.within.q_most))

pub returns-clause-block : goal.returns-clause-block
returns-clause-block c =
    let r = c.requires in
    let e = exponents_of c.begin-e.ensures in
    let p = c.run_samples-r.ensures.progress _ _ (begun_on e r c.rescale_all.ensures zeros refl c.fill.ensures.1 zeros refl c.start.ensures) in
    block_result p c.newest.ensures c.newest-2.ensures (omega (arith, window_long e r c.rescale_all.ensures)) (omega (arith, r.sound.symbols_long)) e.b_is e.bmax_is
