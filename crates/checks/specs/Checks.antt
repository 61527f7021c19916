-- The lists that a block is lent, and the checks before it is run.
use Rattle.std.specs.Prelude.{Bool, ◌&&◌, cond, List, ◌∷◌, ℕ, leb, eqb, length, ℤ}
use Rattle.laws.specs.Lists.{all}
use Rattle.steps.specs.Limits.{gain_limit}
use Rattle.steps.specs.Settings.{is_entry}
use Rattle.block.specs.Block.{Block, Outputs, block_of, outputs_of, output_lengths}
use Rattle.state.specs.Answers.{examined}
use Rattle.state.specs.declared.equaliser.Equaliser.{Equaliser}

-- the lists that are lent: a block, and a list for each of its outputs
pub record Buffers : Type 0 where
  pub block : Block
  pub outputs : Outputs

-- as they stand in a call
abbrev pub buffers_of : List ℤ → List ℕ → List ℤ → List ℤ → List ℕ → List ℤ → List ℤ → List ℕ → Buffers
buffers_of m gains entries y xi decision z theta = record { block = block_of m gains entries; outputs = outputs_of y xi decision z theta }

abbrev pub lengths : Buffers → List ℕ
lengths l = length l.block.samples ∷ length l.block.gains ∷ length l.block.entries ∷ output_lengths l.outputs

-- 3: every list is N long
abbrev pub lengths_fit : ℕ → Buffers → Bool
lengths_fit N l = all (λ (n : ℕ). eqb n N) (lengths l)

-- 4: every gain is from L to 15
abbrev pub gain_fits : ℕ → ℕ → Bool
gain_fits L g = leb L g && leb g gain_limit

-- the checks before the block is run: 1, 2, 9, then 3, 4, 5
unfoldable pub check_number : Equaliser → Buffers → ℕ
check_number e l =
    cond (eqb (examined e) 0)
    (cond (lengths_fit e.n l) (cond (all (gain_fits e.l) l.block.gains) (cond (all (is_entry e.r) l.block.entries) 0 5) 4) 3)
    (examined e)
