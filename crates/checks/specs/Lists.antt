-- The lists that a block is lent, as the definitions have them.
use Rattle.block.specs.Lists.{block_in, outputs_in}
use Rattle.block.specs.declared.lists.Block.{Block}
use Rattle.block.specs.declared.lists.Outputs.{Outputs}
use Rattle.checks.specs.Checks.{Buffers}

abbrev pub buffers_in : Block → Outputs → Buffers
buffers_in i l = record { block = block_in i; outputs = outputs_in l }
