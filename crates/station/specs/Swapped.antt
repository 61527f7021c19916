-- Two stations of one cable, its two conductors swapped at one of them. Lent the same blocks, one with the negatives of the other's samples, they answer and decide the same for ever.
use Rattle.std.specs.Prelude.{◌≡◌, true, List, [], ◌∷◌, ℕ, ◌^◌, length, ℤ, pos, neg_ℤ}
use Rattle.steps.specs.Limits.{slots}
use Rattle.block.specs.Block.{Outputs, output_lengths}
use Rattle.block.specs.Swapped.{swapped, swapped_block}
use Rattle.state.specs.State.{settings, memory, is_sound, state_of}
use Rattle.state.specs.declared.equaliser.Equaliser.{Equaliser}
use Rattle.checks.specs.Checks.{Buffers}
use Rattle.station.specs.Answers.{run_number, run_state, run_outputs}
use Rattle.station.specs.Claim.{Typed}

-- ---- what both are given

-- a sound state in the machine's arrays
pub record SoundState (s : Equaliser) : Type 0 where
  pub sound : is_sound s ≡ true
  pub weights_long : length s.weights ≡ slots
  pub past_long : length s.past ≡ slots

-- the same settings, symbols, feedback weights, ψ, b and B; past stored samples and feed forward weights are each other's negatives
pub record SwappedPair (s s' : Equaliser) : Type 0 where
  pub state : SoundState s
  pub state' : SoundState s'
  pub settings_same : settings s' ≡ settings s
  pub memory_swapped : memory s' ≡ swapped (memory s)

-- the same gains and training entries, samples that are each other's negatives, and lists of equal lengths for the outputs, whatever else is in them
pub record SwappedLists (l l' : Buffers) : Type 0 where
  pub block_swapped : l'.block ≡ swapped_block l.block
  pub lengths_same : output_lengths l'.outputs ≡ output_lengths l.outputs

-- a block that both are lent, as numbers of their machine types. So no sample is −32768: its negative has no place in 16 bits
pub record BuffersOfBoth : Type 0 where
  pub l : Buffers
  pub l' : Buffers
  pub typed : Typed l
  pub typed' : Typed l'
  pub lists : SwappedLists l l'

-- a sample other than −32768
abbrev pub NotLowest : ℤ → Type 0
NotLowest m = m ≡ neg_ℤ (pos (2 ^ 15)) → ⊥

-- the lists with which lists are swapped
abbrev pub partner_lists : Buffers → Buffers
partner_lists l = record { block = swapped_block l.block; outputs = l.outputs }

-- the state with which a state is a swapped pair
abbrev pub partner : Equaliser → Equaliser
partner s = state_of (settings s) (swapped (memory s))

-- ---- what holds of a block that is lent to both

-- the numbers that both answer are the same; every Y, ξ, decision, Z and θ is the same where it is accepted, and each has its lists as they were lent where it isn't
pub record SameAnswers (l : Buffers) (n : ℕ) (h : Outputs) (l' : Buffers) (n' : ℕ) (h' : Outputs) : Type 0 where
  pub number_same : n' ≡ n
  pub outputs_same : n ≡ 0 → h' ≡ h
  pub outputs_kept : (n ≡ 0 → ⊥) → (h ≡ l.outputs) × (h' ≡ l'.outputs)

abbrev pub SameRuns : Equaliser → Buffers → Equaliser → Buffers → Type 0
SameRuns s l s' l' = SameAnswers l (run_number s l) (run_outputs s l) l' (run_number s' l') (run_outputs s' l')

-- ---- what holds of a list of blocks

-- the states that each block gets, and the last ones, are a swapped pair
abbrev pub SwappedAlways : Equaliser → Equaliser → List BuffersOfBoth → Type 0
SwappedAlways s s' [] = SwappedPair s s'
SwappedAlways s s' (b ∷ bs) = SwappedPair s s' × (SameRuns s b.l s' b.l' × SwappedAlways (run_state s b.l) (run_state s' b.l') bs)
