-- The claim over every list of calls. A station is set up or loaded, and is then given blocks to run or to try, buffers to save to and bytes to load, in any order.
-- Whatever these hold, every state of the list is within its limits, and what is said here of a call holds of each call.
use Rattle.std.specs.Prelude.{◌≡◌, true, List, [], ◌∷◌, ℕ, ◌+◌, ◌-◌, ◌<◌, max, length, get_or, take, drop, pos}
use Rattle.std.specs.Int.{w8, w16, w32}
use Rattle.std.proofs.Common.{SFits}
use Rattle.laws.specs.Sums.{Each}
use Rattle.words.specs.Words.{Byte}
use Rattle.steps.specs.Limits.{slots}
use Rattle.steps.specs.Settings.{Settings, scale_forward}
use Rattle.block.specs.Block.{Outputs, X, new_b, at, next_memory, block_outputs, QuantisedWithin, AtSample, StoredNear, Raises, SameWeights}
use Rattle.state.specs.Sizes.{sizes_fit, admits}
use Rattle.state.specs.State.{settings, memory, is_sound, state_of, refused}
use Rattle.state.specs.Answers.{set_up_state}
use Rattle.image.specs.Image.{image, save_number, save_length, save_buffer}
use Rattle.image.specs.Load.{load_number, load_state}
use Rattle.state.specs.declared.equaliser.Equaliser.{Equaliser}
use Rattle.station.specs.Answers.{run_number, run_state, run_outputs}
use Rattle.checks.specs.Checks.{Buffers, check_number}

-- ---- calls

-- lists for outputs: of any length, with any numbers of their machine types
pub record TypedOutputs (l : Outputs) : Type 0 where
  pub y : Each (SFits w32) l.y
  pub xi : Each Byte l.xi
  pub decision : Each (SFits w8) l.decision
  pub z : Each (SFits w32) l.z
  pub theta : Each Byte l.theta

-- and those of a block with them
pub record Typed (l : Buffers) : Type 0 where
  pub samples : Each (SFits w16) l.block.samples
  pub gains : Each Byte l.block.gains
  pub entries : Each (SFits w8) l.block.entries
  pub outputs : TypedOutputs l.outputs

-- run a block, try one, save to a buffer, load bytes
pub data Call : Type 0 where
  run : (l : Buffers) → Typed l → Call
  trial : (l : Buffers) → Typed l → Call
  save : (buffer : List ℕ) → Each Byte buffer → Call
  load : (bytes : List ℕ) → Each Byte bytes → Call

-- the state that the next call gets
abbrev pub left : Equaliser → Call → Equaliser
left s (run l t) = run_state s l
left s (trial l t) = s
left s (save buffer t) = s
left s (load bytes t) = load_state bytes

-- the state after a list of calls
abbrev pub left_by : Equaliser → List Call → Equaliser
left_by s [] = s
left_by s (c ∷ cs) = left_by (left s c) cs

-- the state before the first call: what set-up returned to any settings, or a load to any bytes, turned down or not
pub data Start (s : Equaliser) : Type 0 where
  from_set_up : (k : Settings) → s ≡ set_up_state k → Start s
  from_load : (bytes : List ℕ) → Each Byte bytes → s ≡ load_state bytes → Start s

-- ---- what holds of every state

-- a state that no operation turns down
pub record WithinLimits (s : Equaliser) : Type 0 where
  -- the sizes are within their limits
  pub sizes : sizes_fit (settings s) ≡ true
  -- M is admitted
  pub admitted : admits (settings s) ≡ true
  -- the state is sound
  pub sound : is_sound s ≡ true
  -- both arrays have all their slots
  pub weights_long : length s.weights ≡ slots
  pub past_long : length s.past ≡ slots

-- ---- what holds of every call: of its number, and of what it hands out and leaves

-- a number that is no refusal of the state
pub record StateAccepted (number : ℕ) : Type 0 where
  pub not_sizes : number ≡ 1 → ⊥
  pub not_step : number ≡ 2 → ⊥
  pub not_state : number ≡ 9 → ⊥

-- a block of l was run on s, and a later block of l' is run on s'. At sample n of the later one, the place j of its window holds sample N + n − j of the earlier one
-- (p − 1 ≤ N, so that no older block is met): it is off the value received then by less than 2^(γ − data_unit), with the larger of the two γ
abbrev pub LaterNear : Equaliser → Buffers → Equaliser → Buffers → Type 0
LaterNear s l s' l' =
    let S = scale_forward (settings s) in
    let B = new_b (settings s) (memory s) l.block in
    let B' = new_b (settings s') (memory s') l'.block in
    (n j : ℕ) → n < s.n → j < s.p → n < j →
    QuantisedWithin (B' + S) (max B B' + S) (get_or (at (settings s') (memory s') l'.block n).samples j (pos 0)) (get_or (X (settings s) (memory s) l.block) (s.n + n - j) (pos 0))

-- a block of l that is accepted on s, hands out h and leaves s'
pub record AcceptedBlock (s : Equaliser) (l : Buffers) (s' : Equaliser) (h : Outputs) : Type 0 where
  -- at each sample: the bounds of weights, outputs, their sum and the error; one halving is enough, and a doubling changes no weight's value; the distances of y
  -- and of each weight to the exact ones; with M = 0 no weight changes its value
  pub sample : (n : ℕ) → n < s.n → AtSample (settings s) (memory s) l.block n
  -- nothing clipped: what it hands out is what its samples give, and the state that it leaves is the one that its last sample gives
  pub outputs : h ≡ block_outputs (settings s) (memory s) l.block
  pub leaves : s' ≡ state_of (settings s) (next_memory (settings s) (memory s) l.block)
  -- its stored samples are close to the received values
  pub stored : StoredNear (settings s) (memory s) l.block
  -- and so are those that a later block still uses, where it is accepted on the state that this block left, whatever was called in between
  pub later : (cs : List Call) → left_by s' cs ≡ s' → (l' : Buffers) → run_number (left_by s' cs) l' ≡ 0 → LaterNear s l (left_by s' cs) l'

-- a block that answers n, leaves s' and hands out h
pub record RunHolds (s : Equaliser) (l : Buffers) (n : ℕ) (s' : Equaliser) (h : Outputs) : Type 0 where
  pub number : StateAccepted n
  pub accepted : n ≡ 0 → AcceptedBlock s l s' h
  -- turned down, it leaves the state and the lists as they were
  pub turned_down : (n ≡ 0 → ⊥) → (s' ≡ s) × (h ≡ l.outputs)
  -- 6 is the answer exactly where a block that passes the checks before would raise ψ to 16 at step 7 of some sample
  pub raised : n ≡ 6 → (check_number s l ≡ 0) × Raises (settings s) (memory s) l.block
  pub raised_only : check_number s l ≡ 0 → Raises (settings s) (memory s) l.block → n ≡ 6
  -- with M = 0 every weight keeps its value, though mantissas and ψ may change
  pub frozen : s.m ≡ 0 → SameWeights (memory s) (memory s')

-- a trial that answers n and s' and hands out h: all that is said of a block, and s' is within its limits too
pub record TrialHolds (s : Equaliser) (l : Buffers) (n : ℕ) (s' : Equaliser) (h : Outputs) : Type 0 where
  pub as_run : RunHolds s l n s' h
  pub returned : WithinLimits s'

-- a save that answers n and a length, and leaves the buffer `after`
pub record SaveHolds (s : Equaliser) (before : List ℕ) (n long : ℕ) (after : List ℕ) : Type 0 where
  pub number : StateAccepted n
  -- the front of the buffer, as long as it says, loads as the state that was saved, and later bytes are as they were
  pub accepted_back : n ≡ 0 → load_number (take long after) ≡ 0
  pub state_back : n ≡ 0 → load_state (take long after) ≡ s
  pub later_bytes : n ≡ 0 → drop long after ≡ drop long before
  pub turned_down : (n ≡ 0 → ⊥) → (long ≡ 0) × (after ≡ before)

-- a load that answers n and s': bytes that are accepted are the image of the state that they load as
pub record LoadHolds (bytes : List ℕ) (n : ℕ) (s' : Equaliser) : Type 0 where
  pub same : n ≡ 0 → image s' ≡ bytes
  pub turned_down : (n ≡ 0 → ⊥) → s' ≡ refused

abbrev pub CallHolds : Equaliser → Call → Type 0
CallHolds s (run l t) = RunHolds s l (run_number s l) (run_state s l) (run_outputs s l)
CallHolds s (trial l t) = TrialHolds s l (run_number s l) (run_state s l) (run_outputs s l)
CallHolds s (save buffer t) = SaveHolds s buffer (save_number s buffer) (save_length s buffer) (save_buffer s buffer)
CallHolds s (load bytes t) = LoadHolds bytes (load_number bytes) (load_state bytes)

-- ---- the claim

-- every state of the list, the last one too, and every call
abbrev pub Holds : Equaliser → List Call → Type 0
Holds s [] = WithinLimits s
Holds s (c ∷ cs) = WithinLimits s × (CallHolds s c × Holds (left s c) cs)
