-- What every accepted block hands out can be read: the claim over every list of calls, and the readings, joined.
use Rattle.std.specs.Prelude.{◌≡◌, List, [], ◌∷◌, ℕ, length, Float}
use Rattle.block.specs.Block.{Outputs}
use Rattle.state.specs.declared.equaliser.Equaliser.{Equaliser}
use Rattle.state.specs.declared.equaliser.Answer.{Answer}
use Rattle.checks.specs.Checks.{Buffers}
use Rattle.station.specs.Answers.{Run}
use Rattle.station.specs.Claim.{Call, run, trial, save, load, left}
use Rattle.readings.specs.Readings.{Lists, readings_of, lists_of}
use Rattle.readings.specs.Answers.{answer_of, output_of, number_of}
use Rattle.readings.specs.Holds.{ReadingsHold}

-- the lists of outputs that readings are made of
abbrev pub read_lists : Outputs → Lists
read_lists h = lists_of h.y h.xi h.z h.theta

-- lists of n places are accepted with any n readings lent, and all that is said of readings holds of them
pub record Taken (l : Lists) (n : ℕ) : Type 0 where
  pub accepted : number_of (answer_of l n) ≡ 0
  pub written : (before : List (List Float)) → length before ≡ n → output_of l before ≡ readings_of l
  pub holds : ReadingsHold l n

-- what a block on s hands out, by its contract
abbrev pub BlockTaken : Equaliser → Buffers → Type 0
BlockTaken s l =
    (a : Answer) (h : Outputs) → Run s l a h → a.number ≡ 0 → Taken (read_lists h) s.n

abbrev pub CallTaken : Equaliser → Call → Type 0
CallTaken s (run l t) = BlockTaken s l
CallTaken s (trial l t) = BlockTaken s l
CallTaken s (save buffer t) = Unit
CallTaken s (load bytes t) = Unit

-- every block of a list of calls, run or tried
abbrev pub AllTaken : Equaliser → List Call → Type 0
AllTaken s [] = Unit
AllTaken s (c ∷ cs) = CallTaken s c × AllTaken (left s c) cs
