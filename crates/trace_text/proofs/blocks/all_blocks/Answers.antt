-- One block a turn, behind the blocks before it.
use mathlib.Core.Path.{refl, ◌∙◌, subst}
use Prim.Native.Nat.{ℕ, ◌≤◌, ◌<◌}
use native.Mathlib.Omega.{arith}
use borrow.Author.Rules.{rules}
use Rattle.words.specs.Words.{byte_at}
use Rattle.trace_layout.specs.Trace.{count_in}
use Rattle.trace_layout.proofs.ReadLaws.{well_long}
use Rattle.trace_text.proofs.TextLaws.{going_none, going_next, going_stops, going_all, going_of_trace, going_blockable}
use Rattle.trace_text.proofs.blocks.all_blocks.Goals as goal
use Rattle.trace_text.proofs.blocks.all_blocks.Goals.{In-loop-i}

below : (c : In-loop-i) → c.loop-i.i < count_in c.args.t.now
below c = subst (λ (n : ℕ). c.loop-i.i < n) c.count_in-i-end.ensures c.loop-i-test.true

pub count_in-i-end-requires : goal.count_in-i-end-requires
count_in-i-end-requires c = omega (arith, well_long _ c.requires.trace.well_formed_lem)

pub loop-i-init : goal.loop-i-init
loop-i-init c = record { same_reference = refl; going = going_none c.requires.trace.n_is (search rules) (search rules) }

pub block_text-requires : goal.block_text-requires
block_text-requires c = going_blockable c.loop-i.invariant.going c.requires (below (goal.at.block_text-requires c).In-loop-i)

pub returns-in-Err-clause-text : goal.returns-in-Err-clause-text
returns-in-Err-clause-text c =
    going_stops c.loop-i.invariant.going (omega (arith, c.requires.room)) (below (goal.at.returns-in-Err-clause-text c).In-loop-i) c.in-Err.ensures.added

pub loop-i-preserved : goal.loop-i-preserved
loop-i-preserved c =
    let bytes : (j : ℕ) → byte_at c.args.t.now j < 256 = λ j. omega (arith, c.type_inv.t j) in
    let w = c.loop-i.invariant.going in
    record {
      same_reference = c.block_text.ensures.same_reference ∙ c.loop-i.invariant.same_reference;
      going = going_next w (omega (arith, c.requires.room)) (going_of_trace w c.requires) bytes (below (goal.at.loop-i-preserved c).In-loop-i) c.in-Ok.ensures.added;
    }

pub returns-clause-text : goal.returns-clause-text
returns-clause-text c = going_all c.loop-i.invariant.going (subst (λ (n : ℕ). n ≤ c.loop-i.i) c.count_in-i-end.ensures c.loop-i-test.false)
