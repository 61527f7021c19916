-- What the functions below the run of a block ask and promise.
use Rattle.std.specs.Prelude.{◌≡◌, Bool, cond, List, ◌<◌, ℤ}
use Rattle.block.specs.Block.{Block, Outputs, ψFits, next_memory, block_outputs}
use Rattle.block.specs.Calls.{count, outputs_up_to}
use Rattle.block.specs.declared.run.BlockResult.{BlockResult}
use Rattle.state.specs.State.{settings, memory, state_of}
use Rattle.state.specs.declared.equaliser.Equaliser.{Equaliser}
use Rattle.state.specs.declared.equaliser.Answer.{Answer}

-- the numbers of a result fit their bytes
pub record ResultBytes (r : BlockResult) : Type 0 where
  pub psi : r.psi < 256
  pub b : r.b < 256
  pub bmax : r.bmax < 256

abbrev pub next_of : Equaliser → BlockResult → List ℤ → List ℤ → Equaliser
next_of e r weights past =
    record { p = e.p; q = e.q; n = e.n; r = e.r; l = e.l; psi = r.psi; b = r.b; bmax = r.bmax; m = e.m; weights = weights; past = past }

-- whether ψ keeps its limit
abbrev pub ψFitsBlock : Equaliser → Block → Bool
ψFitsBlock e i = ψFits (settings e) (memory e) i e.n

-- the answer to a block that passed the checks, and the lists that it was run on
pub record RunChecked (e : Equaliser) (i : Block) (l : Outputs) (a : Answer) (l' : Outputs) : Type 0 where
  pub number : a.number ≡ cond (ψFitsBlock e i) 0 6
  pub state : a.state ≡ cond (ψFitsBlock e i) (state_of (settings e) (next_memory (settings e) (memory e) i)) e
  pub outputs_are : l' ≡ outputs_up_to (settings e) (memory e) i (count (settings e) (memory e) i e.n) l

-- what it hands out, or the lists that were there
abbrev pub outputs_or : Equaliser → Block → Outputs → Outputs
outputs_or e i l = cond (ψFitsBlock e i) (block_outputs (settings e) (memory e) i) l
