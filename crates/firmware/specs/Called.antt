-- The claim over the calls for C, by their contracts alone: lists of calls with whatever numbers, states, lists, lengths and buffers the contracts allow.
use Rattle.std.specs.Prelude.{◌≡◌, List, [], ◌∷◌, ℕ}
use Rattle.laws.specs.Sums.{Each}
use Rattle.words.specs.Words.{Byte}
use Rattle.steps.specs.Settings.{Settings}
use Rattle.block.specs.Block.{Outputs}
use Rattle.state.specs.Answers.{SetUp}
use Rattle.image.specs.Image.{save_number, save_length, save_buffer}
use Rattle.image.specs.Load.{load_number, load_state, Load}
use Rattle.image.specs.declared.save.Saved.{Saved}
use Rattle.state.specs.declared.equaliser.Equaliser.{Equaliser}
use Rattle.state.specs.declared.equaliser.Answer.{Answer}
use Rattle.checks.specs.Checks.{Buffers}
use Rattle.station.specs.Answers.{run_number, run_state, run_outputs}
use Rattle.station.specs.Claim.{Typed, Call, run, trial, save, load, left, WithinLimits, RunHolds, TrialHolds, SaveHolds, LoadHolds}
use Rattle.firmware.specs.Held.{InPlace, Trial, Saving}

-- ---- calls with their answers

-- the record before the first call: what the contract of the set-up or of the load allows, turned down or not
pub data Began (s : Equaliser) : Type 0 where
  by_set_up : (k : Settings) (a : Answer) → SetUp k a → s ≡ a.state → Began s
  by_loading : (bytes : List ℕ) → Each Byte bytes → (a : Answer) → Load bytes a → s ≡ a.state → Began s

-- calls from the record s on, each with its answer, the record after it and what it leaves in lent memory. The state that a load answers is the record from then on
pub data Called : Equaliser → List Call → Type 0 where
  end : (s : Equaliser) → Called s []
  ran : (s : Equaliser) (l : Buffers) (t : Typed l) (cs : List Call) (n : ℕ) (s' : Equaliser) (h : Outputs) →
      InPlace s l n s' h → Called s' cs → Called s (run l t ∷ cs)
  tried : (s : Equaliser) (l : Buffers) (t : Typed l) (cs : List Call) (a : Answer) (s' : Equaliser) (h : Outputs) →
      Trial s l a s' h → Called s' cs → Called s (trial l t ∷ cs)
  saved : (s : Equaliser) (buffer : List ℕ) (t : Each Byte buffer) (cs : List Call) (a : Saved) (s' : Equaliser) (after : List ℕ) →
      Saving s buffer a s' after → Called s' cs → Called s (save buffer t ∷ cs)
  loaded : (s : Equaliser) (bytes : List ℕ) (t : Each Byte bytes) (cs : List Call) (a : Answer) →
      Load bytes a → Called a.state cs → Called s (load bytes t ∷ cs)

-- the record that each call gets, and the last
abbrev pub records_of : {s : Equaliser} {cs : List Call} → Called s cs → List Equaliser
records_of (end s) = s ∷ []
records_of (ran s l t cs n s' h r c) = s ∷ records_of c
records_of (tried s l t cs a s' h r c) = s ∷ records_of c
records_of (saved s buffer t cs a s' after r c) = s ∷ records_of c
records_of (loaded s bytes t cs a r c) = s ∷ records_of c

-- what a call answers, and what it leaves in lent memory
pub data Answered : Type 0 where
  by_run : ℕ → Outputs → Answered
  by_trial : Answer → Outputs → Answered
  by_save : Saved → List ℕ → Answered
  by_load : Answer → Answered

abbrev pub answers_of : {s : Equaliser} {cs : List Call} → Called s cs → List Answered
answers_of (end s) = []
answers_of (ran s l t cs n s' h r c) = by_run n h ∷ answers_of c
answers_of (tried s l t cs a s' h r c) = by_trial a h ∷ answers_of c
answers_of (saved s buffer t cs a s' after r c) = by_save a after ∷ answers_of c
answers_of (loaded s bytes t cs a r c) = by_load a ∷ answers_of c

-- ---- those of the claim

-- the state that each call gets, and the last
abbrev pub states : Equaliser → List Call → List Equaliser
states s [] = s ∷ []
states s (c ∷ cs) = s ∷ states (left s c) cs

-- what a call on s answers and leaves in lent memory
abbrev pub answer_to : Equaliser → Call → Answered
answer_to s (run l t) = by_run (run_number s l) (run_outputs s l)
answer_to s (trial l t) = by_trial (record { number = run_number s l; state = run_state s l }) (run_outputs s l)
answer_to s (save buffer t) = by_save (record { number = save_number s buffer; length = save_length s buffer }) (save_buffer s buffer)
answer_to s (load bytes t) = by_load (record { number = load_number bytes; state = load_state bytes })

abbrev pub answers : Equaliser → List Call → List Answered
answers s [] = []
answers s (c ∷ cs) = answer_to s c ∷ answers (left s c) cs

-- ---- what holds of the records and the answers

-- all that the claim says
abbrev pub CalledHolds : {s : Equaliser} {cs : List Call} → Called s cs → Type 0
CalledHolds (end s) = WithinLimits s
CalledHolds (ran s l t cs n s' h r c) = WithinLimits s × (RunHolds s l n s' h × CalledHolds c)
CalledHolds (tried s l t cs a s' h r c) = WithinLimits s × (TrialHolds s l a.number a.state h × CalledHolds c)
CalledHolds (saved s buffer t cs a s' after r c) = WithinLimits s × (SaveHolds s buffer a.number a.length after × CalledHolds c)
CalledHolds (loaded s bytes t cs a r c) = WithinLimits s × (LoadHolds bytes a.number a.state × CalledHolds c)

-- they are those of the claim, and all that it says holds of them
pub record AsClaimed {s : Equaliser} {cs : List Call} (c : Called s cs) : Type 0 where
  pub records_same : records_of c ≡ states s cs
  pub answers_same : answers_of c ≡ answers s cs
  pub holds : CalledHolds c
