-- One sample a turn.
use native.Mathlib.Omega.{arith}
use mathlib.Core.Path.{◌∙◌}
use lib.ListN.{get_or}
use lib.IntN.{pos}
use mir.Syntax.{w16}
use Rattle.laws.specs.Machine.{kept}
use Rattle.block.proofs.ReceivedLaws.{received_kept, stored_bounds, stored_next, stored_done}
use Rattle.block.proofs.stored.store.Goals as goal

pub shifted-requires : goal.shifted-requires
shifted-requires c =
    stored_bounds c.requires.0 c.loop-i.i (omega arith) (received_kept (get_or c.args.m.now c.loop-i.i (pos 0)) (get_or c.args.gains.now c.loop-i.i 0) (omega arith) c.received.type_inv c.received.ensures) c.saturating_sub-up.ensures c.saturating_sub-down.ensures

pub loop-i-preserved : goal.loop-i-preserved
loop-i-preserved c =
    stored_next c.requires.0 c.loop-i.i (omega arith) (received_kept (get_or c.args.m.now c.loop-i.i (pos 0)) (get_or c.args.gains.now c.loop-i.i 0) (omega arith) c.received.type_inv c.received.ensures) c.saturating_sub-up.ensures c.saturating_sub-down.ensures
    c.loop-i.invariant c.requires.1 (kept w16 _ c.shifted.type_inv ∙ c.shifted.ensures)

pub returns : goal.returns
returns c = stored_done c.requires.0 c.loop-i.invariant c.requires.1 (omega arith)
