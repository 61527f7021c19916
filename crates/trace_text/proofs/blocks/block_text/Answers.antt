-- A block that is run, then its lines or the line of its refusal.
use mathlib.Core.Path.{◌≡◌, refl, ap}
use Prim.Native.Nat.{ℕ, ◌<◌}
use native.Mathlib.Omega.{arith}
use lib.ListN.{length}
use borrow.Author.Rules.{rules}
use Rattle.words.specs.Words.{byte_at}
use Rattle.steps.specs.Limits.{slots}
use Rattle.state.specs.Refusal.{answer_with}
use Rattle.trace_text.proofs.BlockLaws.{block_runnable, block_printable, block_added, stop_added}
use Rattle.trace_text.proofs.blocks.block_text.Goals as goal

pub run_block-next-requires : goal.run_block-next-requires
run_block-next-requires c = block_runnable _ _ c.requires.trace _ c.requires.within c.from-n.ensures

pub lines-requires : goal.lines-requires
lines-requires c =
    let bytes : (j : ℕ) → byte_at c.args.t.now j < 256 = λ j. omega (arith, c.type_inv.t j) in
    let w : length c.args.e.weights ≡ slots = search rules in
    let d : length c.args.e.past ≡ slots = search rules in
    block_printable c.requires c.from-n.ensures c.in-Ok.ensures refl _ _ _ bytes w d

pub returns-in-Ok-clause-added : goal.returns-in-Ok-clause-added
returns-in-Ok-clause-added c = block_added c.requires c.from-n.ensures c.in-Ok.ensures refl _ _ _ (ap (answer_with c.args.e) c.in-Ok.is) c.lines.ensures.text

pub returns-in-Err-clause-added : goal.returns-in-Err-clause-added
returns-in-Err-clause-added c = stop_added c.requires c.from-n.ensures c.in-Err.ensures c.from.ensures c.stop_line.ensures.text
