-- Three lists are read from the trace, and the block is run on them.
use mathlib.Core.Path.{◌∙◌}
use Prim.Native.Nat.{◌≤◌}
use native.Mathlib.Omega.{arith}
use lib.IntN.{pos}
use borrow.Author.Rules.{rules}
use Rattle.steps.specs.Limits.{block_limit}
use Rattle.trace_text.proofs.BlockLaws.{zeros_long, area_buffers, ran_is}
use Rattle.trace_text.proofs.blocks.run_block.Goals as goal

pub returns : goal.returns
returns c =
    let most : c.from-n.result ≤ block_limit = omega (arith, c.from-n.ensures, c.requires.trace.n_most) in
    let read = area_buffers _ _ _ _ _ _ _ _ (c.from-n.ensures ∙ c.requires.trace.n_is) most (zeros_long (pos 0) _ most) c.block.ensures in
    ran_is read c.run.ensures.run (search rules) (search rules) (search rules)
