-- The two conductors swapped: a block, and what it leaves.
use Rattle.laws.specs.Negated.{negated}
use Rattle.block.specs.Block.{Block, Memory}

-- feed forward weights and past stored samples are the negatives; feedback weights, symbols, ψ, b and B are the same
abbrev pub swapped : Memory → Memory
swapped o = record { forward = negated o.forward; back = o.back; samples = negated o.samples; symbols = o.symbols; ψ = o.ψ; b = o.b; B = o.B }

-- samples are the negatives; gains and training entries are the same
abbrev pub swapped_block : Block → Block
swapped_block i = record { samples = negated i.samples; gains = i.gains; entries = i.entries }
