-- What running a block answers.
use Rattle.std.specs.Prelude.{cond, ◌≡◌, ℕ, eqb}
use Rattle.block.specs.Block.{Outputs, ψFits, next_memory, block_outputs}
use Rattle.state.specs.State.{settings, memory, state_of}
use Rattle.state.specs.declared.equaliser.Equaliser.{Equaliser}
use Rattle.state.specs.declared.equaliser.Answer.{Answer}
use Rattle.checks.specs.Checks.{Buffers, check_number}

-- the number that running a block answers: 6 where step 7 would raise ψ to 16
unfoldable pub run_number : Equaliser → Buffers → ℕ
run_number e l =
    cond (eqb (check_number e l) 0) (cond (ψFits (settings e) (memory e) l.block e.n) 0 6) (check_number e l)

-- an accepted block, or what there was
abbrev pub if_accepted {ℓ} : {A : Type ℓ} → Equaliser → Buffers → A → A → A
if_accepted e l new old = cond (eqb (run_number e l) 0) new old

-- the state that a block leaves
unfoldable pub run_state : Equaliser → Buffers → Equaliser
run_state e l = if_accepted e l (state_of (settings e) (next_memory (settings e) (memory e) l.block)) e

-- and the lists
abbrev pub run_outputs : Equaliser → Buffers → Outputs
run_outputs e l = if_accepted e l (block_outputs (settings e) (memory e) l.block) l.outputs

-- the answer, and the lent lists at the end
pub record Run (e : Equaliser) (l : Buffers) (a : Answer) (h : Outputs) : Type 0 where
  pub number : a.number ≡ run_number e l
  pub state : a.state ≡ run_state e l
  pub outputs : h ≡ run_outputs e l
