-- One symbol a turn, into the next place.
use mathlib.Core.Path.{refl, ◌∙◌}
use lib.IntN.{pos}
use mir.Syntax.{w8}
use Rattle.laws.specs.Machine.{kept}
use Rattle.laws.specs.Values.{values_written, values_all}
use Rattle.description.proofs.read.symbols.Goals as goal

pub loop-i-preserved : goal.loop-i-preserved
loop-i-preserved c =
    values_written _ _ c.loop-i.invariant (pos 0) _ c.loop-i-test.true c.loop-i-test.true (kept w8 _ c.cast_signed.type_inv ∙ c.cast_signed.ensures)

pub returns : goal.returns
returns c = values_all _ _ c.loop-i.invariant refl c.loop-i-test.false
