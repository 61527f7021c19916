-- What the functions of a block ask and promise.
use Rattle.std.specs.Prelude.{◌≡◌, cond, List, [], ◌∷◌, ◌++◌, ℕ, zero, suc, ◌+◌, ◌-◌, ◌≤◌, ◌<◌, max, length, take, ℤ, pos}
use Rattle.laws.specs.Loops.{overlay}
use Rattle.numbers.specs.BitLength.{bit_length}
use Rattle.steps.specs.Limits.{tap_limit, block_limit, length_limit}
use Rattle.steps.specs.Sound.{line_length, Within}
use Rattle.steps.specs.Settings.{Settings, scale_forward, scale_back}
use Rattle.steps.specs.Fir.{largest, magnitudes}
use Rattle.filter.specs.Sample.{FilterState}
use Rattle.filter.specs.Calls.{LargestBitsAt, Ready, filter_state_of}
use Rattle.filter.specs.Lent.{SameLists}
use Rattle.filter.specs.declared.sample.BlockExponents.{BlockExponents}
use Rattle.block.specs.Line.{newest, started, added}
use Rattle.block.specs.Block.{Block, Memory, Outputs, outputs_of, received_all, stored_all, newb, new_b, Γ, after, ψFits, block_outputs}
use Rattle.block.specs.Sound.{Sound, Acceptable, Receivable, StoreBounds}
use Rattle.block.specs.declared.lists.Handed as Read
use Rattle.block.specs.declared.lists.Memory as Kept
use Rattle.block.specs.declared.run.Progress.{Progress}
use Rattle.block.specs.declared.run.BlockResult.{BlockResult}

-- the window has the last p − 1 stored samples and a place for the next
abbrev pub memory_of : List ℤ → List ℤ → List ℤ → List ℤ → ℕ → ℕ → ℕ → Memory
memory_of forward back window symbols ψ b B = record { forward = forward; back = back; samples = take (length window - 1) window; symbols = symbols; ψ = ψ; b = b; B = B }

-- ---- the lists of structs that only functions inside take

abbrev pub handed_in : Read.Handed → Outputs
handed_in l = outputs_of l.y.now l.xi.now l.decision.now l.z.now l.theta.now

abbrev pub memory_in : Kept.Memory → Memory
memory_in o = memory_of o.weights.forward.now o.weights.back.now o.samples.now o.symbols.now o.psi o.b o.bmax

-- each list is still the one that was lent, whatever is in it, and the numbers beside them stay
pub record SameMemory (o o' : Kept.Memory) : Type 0 where
  pub weights : SameLists o.weights o'.weights
  pub samples : o'.samples.ghost_name ≡ o.samples.ghost_name
  pub symbols : o'.symbols.ghost_name ≡ o.symbols.ghost_name
  pub psi : o'.psi ≡ o.psi
  pub b : o'.b ≡ o.b
  pub bmax : o'.bmax ≡ o.bmax

-- ---- the parts of a block

-- 1: b
abbrev pub block_length : List ℤ → List ℕ → ℕ
block_length m gains = bit_length (largest (magnitudes (received_all m gains)))

pub record Startable (k : Settings) (was : ℕ) (m : List ℤ) (gains : List ℕ) : Type 0 where
  pub within : Within k
  pub was_most : was ≤ length_limit
  pub receivable : Receivable m gains

pub record BlockExponentsIs (k : Settings) (was : ℕ) (m : List ℤ) (gains : List ℕ) (r : BlockExponents) : Type 0 where
  pub s : r.s ≡ scale_forward k
  pub sb : r.sb ≡ scale_back k
  pub b : r.b ≡ block_length m gains
  pub bmax : r.bmax ≡ max (block_length m gains) was
  pub exponent : r.gamma30 ≡ k.r + max (block_length m gains) was + scale_forward k

-- ---- the samples of a block

pub record FillBounds (m : List ℤ) (gains : List ℕ) (shift : ℕ) (old stored line : List ℤ) : Type 0 where
  pub bounds : StoreBounds m gains shift
  pub samples_most : length m ≤ block_limit
  pub stored_long : length stored ≡ length m
  pub old_most : length old ≤ tap_limit
  pub line_long : length line ≡ line_length

-- a line with the old samples and those of a block
abbrev pub filled : ℕ → List ℤ → List ℕ → List ℤ → List ℤ → List ℤ
filled shift m gains old line = added (length m) (stored_all shift m gains) (started old line)

-- the filter state when n samples are done, on the lines of stored samples and of symbols, and with the next sample entered
abbrev pub filter_state_after : Settings → ℕ → List ℤ → List ℤ → List ℤ → List ℤ → ℕ → FilterState
filter_state_after k n forward back samples symbols ψ = filter_state_of forward back (newest k.p n samples) (newest k.q n symbols) ψ

abbrev pub filter_state_at : Settings → ℕ → List ℤ → List ℤ → List ℤ → List ℤ → ℕ → FilterState
filter_state_at k n forward back samples symbols ψ = filter_state_of forward back (newest k.p (suc n) samples) (newest k.q n symbols) ψ

pub record Advanceable (k : Settings) (e : BlockExponents) (delay n : ℕ) (entry : ℤ) (samples symbols : List ℤ) (t : FilterState) : Type 0 where
  pub room : n < block_limit
  pub samples_long : length samples ≡ line_length
  pub symbols_long : length symbols ≡ line_length
  pub ready : Ready k e t entry
  pub largest_bits_at : LargestBitsAt k.r delay t.symbols

-- ---- a block in progress

module _ (k : Settings) (o : Memory) (i : Block) where
  -- how many of the first n samples are run: all, or up to and with the one at which ψ passes its limit
  unfoldable pub count : ℕ → ℕ
  count zero = 0
  count (suc n) = cond (ψFits k o i n) (suc n) (count n)

  -- the first n of each, over lists that were there
  abbrev pub outputs_up_to : ℕ → Outputs → Outputs
  outputs_up_to n l =
      let h = block_outputs k o i in
      record {
        y = overlay n h.y l.y;
        xi = overlay n h.xi l.xi;
        decision = overlay n h.decision l.decision;
        z = overlay n h.z l.z;
        theta = overlay n h.theta l.theta;
      }

-- lists of N elements
pub record OutputsLong (k : Settings) (l : Outputs) : Type 0 where
  pub y_long : length l.y ≡ k.N
  pub xi_long : length l.xi ≡ k.N
  pub decision_long : length l.decision ≡ k.N
  pub z_long : length l.z ≡ k.N
  pub theta_long : length l.theta ≡ k.N

-- the exponents of the block i on the memory o
pub record ExponentsOf (k : Settings) (o : Memory) (i : Block) (e : BlockExponents) : Type 0 where
  pub s_is : e.s ≡ scale_forward k
  pub sb_is : e.sb ≡ scale_back k
  pub b_is : e.b ≡ newb k o i
  pub bmax_is : e.bmax ≡ new_b k o i
  pub Γ_is : e.gamma30 ≡ Γ k o i

-- a line that has the samples as the weights meet them
pub record SampleLine (k : Settings) (o : Memory) (i : Block) (line : List ℤ) : Type 0 where
  pub long : length line ≡ line_length
  pub windows : (n : ℕ) → n ≤ k.N → newest k.p n line ≡ (after k o i n).samples

-- the block i on the memory o before its first sample
pub record BegunOn (k : Settings) (o : Memory) (i : Block) (e : BlockExponents) (ψ : ℕ) (entries forward back samples symbols : List ℤ) (l : Outputs) : Type 0 where
  pub sound : Sound k o
  pub acceptable : Acceptable k i
  pub outputs_long : OutputsLong k l
  pub exponents : ExponentsOf k o i e
  pub entries_are : entries ≡ i.entries
  pub sample_line : SampleLine k o i samples
  pub symbols_long : length symbols ≡ line_length
  pub filter_state_is : filter_state_after k 0 forward back samples symbols ψ ≡ after k o i 0

pub record Begun (k : Settings) (e : BlockExponents) (ψ : ℕ) (entries forward back samples symbols : List ℤ) (l : Outputs) : Type 0 where
  pub o : Memory
  pub i : Block
  pub begun : BegunOn k o i e ψ entries forward back samples symbols l

-- the same after its last sample
pub record ProgressedOn (k : Settings) (o : Memory) (i : Block) (samples : List ℤ) (l : Outputs) (r : Progress) (forward back symbols : List ℤ) (l' : Outputs) : Type 0 where
  pub count_is : r.count ≡ count k o i k.N
  pub filter_state_is : filter_state_after k r.count forward back samples symbols r.psi ≡ after k o i (count k o i k.N)
  pub outputs_are : l' ≡ outputs_up_to k o i (count k o i k.N) l

abbrev pub Progressed : Settings → BlockExponents → ℕ → List ℤ → List ℤ → List ℤ → List ℤ → List ℤ → Outputs → Progress → List ℤ → List ℤ → List ℤ → Outputs → Type 0
Progressed k e ψ entries forward back samples symbols l r forward' back' symbols' l' =
    (o : Memory) (i : Block) → BegunOn k o i e ψ entries forward back samples symbols l → ProgressedOn k o i samples l r forward' back' symbols' l'

-- ---- the whole block

pub record Runnable (k : Settings) (o : Memory) (i : Block) (window : List ℤ) (l : Outputs) : Type 0 where
  pub sound : Sound k o
  pub acceptable : Acceptable k i
  pub window_is : window ≡ o.samples ++ (pos 0 ∷ [])
  pub outputs_long : OutputsLong k l

pub record BlockResultIs (k : Settings) (o : Memory) (i : Block) (l : Outputs) (r : BlockResult) (forward back window symbols : List ℤ) (l' : Outputs) : Type 0 where
  pub filter_state_is : filter_state_of forward back window symbols r.psi ≡ after k o i (count k o i k.N)
  pub b : r.b ≡ newb k o i
  pub bmax : r.bmax ≡ new_b k o i
  pub outputs_are : l' ≡ outputs_up_to k o i (count k o i k.N) l
