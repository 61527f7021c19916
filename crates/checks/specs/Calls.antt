-- What the checks give.
use Rattle.std.specs.Prelude.{◌≡◌, true, List, ◌^◌, ◌≤◌, ℤ, nat_abs}
use Rattle.laws.specs.Sums.{Each}
use Rattle.steps.specs.Limits.{data_unit}
use Rattle.block.specs.Block.{Block}
use Rattle.block.specs.Calls.{handed_in}
use Rattle.block.specs.Lists.{block_in}
use Rattle.block.specs.declared.lists.Block as Given
use Rattle.block.specs.declared.lists.Handed as Read
use Rattle.block.specs.Sound.{Sound, Acceptable}
use Rattle.state.specs.Sizes.{sizes_fit}
use Rattle.state.specs.State.{settings, memory, is_sound}
use Rattle.state.specs.declared.equaliser.Equaliser.{Equaliser}
use Rattle.checks.specs.Checks.{Buffers}

-- the lists of a block where those for the outputs are only read
abbrev pub buffers_read : Given.Block → Read.Handed → Buffers
buffers_read i l = record { block = block_in i; outputs = handed_in l }

-- samples of 16 bits
abbrev pub Sampled : List ℤ → Type 0
Sampled m = Each (λ (z : ℤ). nat_abs z ≤ 2 ^ data_unit) m

-- a state and a block that passed the checks
pub record Checked (e : Equaliser) (i : Block) : Type 0 where
  pub sizes : sizes_fit (settings e) ≡ true
  pub sound_state : is_sound e ≡ true
  pub sound : Sound (settings e) (memory e)
  pub acceptable : Acceptable (settings e) i
