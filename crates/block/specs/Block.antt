-- One block of N samples, and what holds at each sample of an accepted one.
use Rattle.std.specs.Prelude.{◌≡◌, Bool, true, ◌&&◌, List, [], ◌∷◌, ◌++◌, map, ℕ, zero, suc, ◌+◌, ◌-◌, ◌^◌, ◌≤◌, ◌<◌, max, leb, length, get_or, take, ℤ, pos, nat_abs, ◌-ℤ◌}
use Rattle.laws.specs.Sums.{Each}
use Rattle.laws.specs.Values.{values}
use Rattle.numbers.specs.BitLength.{bit_length}
use Rattle.numbers.specs.Cut.{raise, rescale}
use Rattle.steps.specs.Limits.{data_unit, gain_limit, exponent_limit}
use Rattle.steps.specs.Settings.{Settings, scale_forward}
use Rattle.steps.specs.Fir.{Small, largest, magnitudes, push}
use Rattle.filter.specs.Sample.{FilterState, halve, Y, ξ, decision, Z, θ, outcome, next, Bounded, Normalised, Faithful, SameValues, Frozen}

-- what a block is given: m, the gains and the training entries
pub record Block : Type 0 where
  pub samples : List ℤ
  pub gains : List ℕ
  pub entries : List ℤ

abbrev pub block_of : List ℤ → List ℕ → List ℤ → Block
block_of m gains entries = record { samples = m; gains = gains; entries = entries }

-- what a block leaves to the next: the last p − 1 stored samples, the rest as at a sample, b and B
pub record Memory : Type 0 where
  pub forward : List ℤ
  pub back : List ℤ
  pub samples : List ℤ
  pub symbols : List ℤ
  pub ψ : ℕ
  pub b : ℕ
  pub B : ℕ

-- X = m·2^(gain_limit − g)
abbrev pub received : ℤ → ℕ → ℤ
received m g = raise m (gain_limit - g)

unfoldable pub received_all : List ℤ → List ℕ → List ℤ
received_all [] gs = []
received_all (m ∷ ms) [] = []
received_all (m ∷ ms) (g ∷ gs) = received m g ∷ received_all ms gs

-- the samples as they are stored at B + S = shift
abbrev pub stored_all : ℕ → List ℤ → List ℕ → List ℤ
stored_all shift m gains = map (λ (x : ℤ). rescale x data_unit shift) (received_all m gains)

-- a list for each output, of an element for each sample
pub record Outputs : Type 0 where
  pub y : List ℤ
  pub xi : List ℕ
  pub decision : List ℤ
  pub z : List ℤ
  pub theta : List ℕ

abbrev pub outputs_of : List ℤ → List ℕ → List ℤ → List ℤ → List ℕ → Outputs
outputs_of y xi decision z theta = record { y = y; xi = xi; decision = decision; z = z; theta = theta }

abbrev pub output_lengths : Outputs → List ℕ
output_lengths l = length l.y ∷ length l.xi ∷ length l.decision ∷ length l.z ∷ length l.theta ∷ []

-- A stored sample A means A·2^(γ − data_unit), with γ = r − received_unit + B + S, and the received value is
-- x = X·2^(r − received_unit). Both are compared times 2^(mantissa_unit − r): A at B + S = e is off X by less than
-- 2^limit, where 2^(γ − data_unit) becomes 2^(B+S)
abbrev pub QuantisedWithin : ℕ → ℕ → ℤ → ℤ → Type 0
QuantisedWithin e limit A X = nat_abs (raise A e -ℤ raise X data_unit) < 2 ^ limit

-- the weights that a block left mean the same numbers as those that it found
abbrev pub SameWeights : Memory → Memory → Type 0
SameWeights o o' = SameValues o.ψ o.forward o.back o'.ψ o'.forward o'.back

module _ (k : Settings) (o : Memory) (i : Block) where
  -- X of each sample
  abbrev pub X : List ℤ
  X = received_all i.samples i.gains

  -- 1: b, B and γ + received_unit
  unfoldable pub newb : ℕ
  newb = bit_length (largest (magnitudes X))

  unfoldable pub new_b : ℕ
  new_b = max newb o.b

  unfoldable pub Γ : ℕ
  Γ = k.r + new_b + scale_forward k

  -- 2: the stored samples, and the old ones at the new exponent
  unfoldable pub stored : List ℤ
  stored = stored_all (new_b + scale_forward k) i.samples i.gains

  unfoldable pub old : List ℤ
  old = map (λ (a : ℤ). rescale a o.B new_b) o.samples

  -- the filter state before the first sample: the window ends in a 0, which falls off when the sample enters
  unfoldable pub start : FilterState
  start = record { forward = o.forward; back = o.back; samples = old ++ (pos 0 ∷ []); symbols = o.symbols; ψ = o.ψ }

  -- the new stored sample enters the window
  abbrev pub entered : ℕ → FilterState → FilterState
  entered n t = record { forward = t.forward; back = t.back; samples = push (get_or stored n (pos 0)) t.samples; symbols = t.symbols; ψ = t.ψ }

  -- the filter state when n samples are done
  unfoldable pub after : ℕ → FilterState
  after zero = start
  after (suc n) = next k Γ (entered n (after n)) (get_or i.entries n (pos 0))

  -- and with the next sample entered
  unfoldable pub at : ℕ → FilterState
  at n = entered n (after n)

  -- ψ stayed within its limit through the first n samples
  unfoldable pub ψFits : ℕ → Bool
  ψFits zero = true
  ψFits (suc n) = ψFits n && leb (after (suc n)).ψ exponent_limit

  -- the training entry of a sample
  abbrev pub entry_at : ℕ → ℤ
  entry_at n = get_or i.entries n (pos 0)

  -- what a block hands out: Y, ξ, decision, Z and θ of each sample
  unfoldable pub block_outputs : Outputs
  block_outputs = record {
    y = values (λ n. Y k Γ (at n) (entry_at n)) k.N;
    xi = values (λ n. ξ k Γ (at n) (entry_at n)) k.N;
    decision = values (λ n. decision k Γ (at n) (entry_at n)) k.N;
    z = values (λ n. Z k Γ (at n) (entry_at n)) k.N;
    theta = values (λ n. θ k Γ (at n) (entry_at n)) k.N;
  }

  -- what an accepted block leaves
  unfoldable pub next_memory : Memory
  next_memory =
      let t = after k.N in
      record { forward = t.forward; back = t.back; samples = take (k.p - 1) t.samples; symbols = t.symbols; ψ = t.ψ; b = newb; B = new_b }

  -- ---- what holds of an accepted block

  -- what holds at sample n
  pub record AtSample (n : ℕ) : Type 0 where
    -- p weights with as many stored samples, q weights with as many symbols; after it p and q weights
    pub forward_long : length (at n).forward ≡ k.p
    pub samples_long : length (at n).samples ≡ k.p
    pub back_long : length (at n).back ≡ k.q
    pub symbols_long : length (at n).symbols ≡ k.q
    pub next_forward_long : length (after (suc n)).forward ≡ k.p
    pub next_back_long : length (after (suc n)).back ≡ k.q
    -- |W| below the halving limit before it
    pub forward_before : Each Small (at n).forward
    pub back_before : Each Small (at n).back
    -- F, H, Y, Z and new weights keep their bounds, and |W| is below the halving limit after it
    pub bounded : Bounded k Γ (at n) (entry_at n)
    -- one halving is enough, and a doubling changes no weight's value
    pub normalised_once : Normalised k Γ (at n) (entry_at n)
    -- the distances of y and of each new weight to the exact ones
    pub faithful : Faithful k Γ (at n) (entry_at n)
    -- with M = 0 no weight changes its value, though mantissas and ψ may change
    pub frozen : Frozen k Γ (at n) (entry_at n)

  -- each stored sample is off its received value by less than 2^(γ − data_unit)
  abbrev pub StoredNear : Type 0
  StoredNear = (n : ℕ) → n < k.N → QuantisedWithin (new_b + scale_forward k) (new_b + scale_forward k) (get_or stored n (pos 0)) (get_or X n (pos 0))

  -- step 7 would raise ψ above its limit at some sample, and at none before
  pub record Raises : Type 0 where
    pub place : ℕ
    pub in_block : place < k.N
    pub within : (j : ℕ) → j ≤ place → (after j).ψ ≤ exponent_limit
    pub highest : (after place).ψ ≡ exponent_limit
    pub halves : outcome k Γ (at place) (entry_at place) ≡ halve
