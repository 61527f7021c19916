-- Trials among calls: a trial is the call in place on a copy, and blocks, saves and loads go on as if there were none.
use mathlib.Core.Path.{◌≡◌, refl, sym, ap, ◌∙◌}
use mathlib.Core.List.{List, [], ◌∷◌}
use Prim.Native.Nat.{ℕ}
use Rattle.block.specs.Block.{Outputs}
use Rattle.state.specs.declared.equaliser.Equaliser.{Equaliser}
use Rattle.state.specs.declared.equaliser.Answer.{Answer}
use Rattle.checks.specs.Checks.{Buffers}
use Rattle.station.specs.Claim.{Call, run, trial, save, load, left, Holds}
use Rattle.firmware.specs.Held.{InPlace, Trial}
use Rattle.firmware.specs.Called.{Called, records_of, states}
use Rattle.firmware.specs.Trials.{SameAsRun, without, records_without}
use Rattle.firmware.proofs.Called.{records_are}

-- for every record and all lent lists
pub trial_is_run : (s : Equaliser) (l : Buffers) (a : Answer) (s' : Equaliser) (h : Outputs) (n : ℕ) (c : Equaliser) (k : Outputs) → Trial s l a s' h → InPlace s l n c k → SameAsRun a h n c k
trial_is_run s l a s' h n c k (t, e) r = record {
  number = t.number ∙ sym r.number;
  state = t.state ∙ sym r.state;
  outputs = t.outputs ∙ sym r.outputs;
}

-- blocks, saves and loads get the states of the list without its trials, and the last state is the same
pub states_without : (s : Equaliser) (cs : List Call) → records_without cs (states s cs) ≡ states s (without cs)
states_without s [] = refl
states_without s (run l t ∷ cs) = ap (λ (ss : List Equaliser). s ∷ ss) (states_without (left s (run l t)) cs)
states_without s (trial l t ∷ cs) = states_without s cs
states_without s (save buffer t ∷ cs) = ap (λ (ss : List Equaliser). s ∷ ss) (states_without s cs)
states_without s (load bytes t ∷ cs) = ap (λ (ss : List Equaliser). s ∷ ss) (states_without (left s (load bytes t)) cs)

-- the same of the records, by the contracts alone
pub records_without_lem : {s : Equaliser} {cs : List Call} (c : Called s cs) (c' : Called s (without cs)) → records_without cs (records_of c) ≡ records_of c'
records_without_lem {s} {cs} c c' = ap (records_without cs) (records_are c) ∙ states_without s cs ∙ sym (records_are c')

-- the claim over a list says all that it says of the list without its trials
pub holds_without : (s : Equaliser) (cs : List Call) → Holds s cs → Holds s (without cs)
holds_without s [] g = g
holds_without s (run l t ∷ cs) (g, (c, h)) = (g, (c, holds_without (left s (run l t)) cs h))
holds_without s (trial l t ∷ cs) (g, (c, h)) = holds_without s cs h
holds_without s (save buffer t ∷ cs) (g, (c, h)) = (g, (c, holds_without s cs h))
holds_without s (load bytes t ∷ cs) (g, (c, h)) = (g, (c, holds_without (left s (load bytes t)) cs h))
