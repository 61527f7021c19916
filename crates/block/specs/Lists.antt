-- The lists of a block, as the definitions have them.
use Rattle.std.specs.Prelude.{◌≡◌}
use Rattle.block.specs.Block as Block
use Rattle.block.specs.declared.lists.Block as Given
use Rattle.block.specs.declared.lists.Outputs as Lent

abbrev pub block_in : Given.Block → Block.Block
block_in i = Block.block_of i.m.now i.gains.now i.entries.now

abbrev pub outputs_in : Lent.Outputs → Block.Outputs
outputs_in l = Block.outputs_of l.y.now l.xi.now l.decision.now l.z.now l.theta.now

-- ---- each is still the list that was lent, whatever is in it

pub record SameOutputs (l l' : Lent.Outputs) : Type 0 where
  pub y : l'.y.ghost_name ≡ l.y.ghost_name
  pub xi : l'.xi.ghost_name ≡ l.xi.ghost_name
  pub decision : l'.decision.ghost_name ≡ l.decision.ghost_name
  pub z : l'.z.ghost_name ≡ l.z.ghost_name
  pub theta : l'.theta.ghost_name ≡ l.theta.ghost_name
