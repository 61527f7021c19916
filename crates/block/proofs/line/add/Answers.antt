-- One element a turn, into the place before the last one.
use native.Mathlib.Omega.{arith}
use mir.Syntax.{w16}
use Rattle.laws.specs.Machine.{kept}
use Rattle.block.proofs.LineLaws.{added_none, added_next}
use Rattle.block.proofs.line.add.Goals as goal

pub loop-i-init : goal.loop-i-init
loop-i-init c = added_none _ _

pub loop-i-preserved : goal.loop-i-preserved
loop-i-preserved c = added_next c.loop-i.i c.args.new.now c.args.line.now c.loop-i.invariant (kept w16 _ (omega arith))
