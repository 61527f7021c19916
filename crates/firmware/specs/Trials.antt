-- Trials among calls. A trial answers and hands out what running the block in place does, on a record that stays as it was.
use Rattle.std.specs.Prelude.{◌≡◌, List, [], ◌∷◌, ℕ}
use Rattle.block.specs.Block.{Outputs}
use Rattle.state.specs.declared.equaliser.Equaliser.{Equaliser}
use Rattle.state.specs.declared.equaliser.Answer.{Answer}
use Rattle.station.specs.Claim.{Call, run, trial, save, load}

-- a trial that answers a and writes h, and the call in place on a copy, which answers n, leaves c in the copy and writes k
pub record SameAsRun (a : Answer) (h : Outputs) (n : ℕ) (c : Equaliser) (k : Outputs) : Type 0 where
  pub number : a.number ≡ n
  pub state : a.state ≡ c
  pub outputs : h ≡ k

-- ---- trials in a list of calls

-- the list without its trials
abbrev pub without : List Call → List Call
without [] = []
without (run l t ∷ cs) = run l t ∷ without cs
without (trial l t ∷ cs) = without cs
without (save buffer t ∷ cs) = save buffer t ∷ without cs
without (load bytes t ∷ cs) = load bytes t ∷ without cs

-- the records of a list but for those that its trials get: those that its blocks, saves and loads get, and the last
abbrev pub records_without : List Call → List Equaliser → List Equaliser
records_without [] ss = ss
records_without (c ∷ cs) [] = []
records_without (run l t ∷ cs) (s ∷ ss) = s ∷ records_without cs ss
records_without (trial l t ∷ cs) (s ∷ ss) = records_without cs ss
records_without (save buffer t ∷ cs) (s ∷ ss) = s ∷ records_without cs ss
records_without (load bytes t ∷ cs) (s ∷ ss) = s ∷ records_without cs ss
