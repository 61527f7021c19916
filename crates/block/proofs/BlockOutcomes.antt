-- Over a whole block: where ψ would pass its limit, and weights that keep their values.
use mathlib.Core.Path.{◌≡◌, refl, ap, ◌∙◌, subst}
use mathlib.Core.Bool.{Bool, true, false, ◌&&◌}
use Prim.Native.Nat.{ℕ, zero, suc, ◌≤◌, ◌<◌}
use native.Mathlib.Omega.{arith}
use native.Mathlib.Nat.{le_refl}
use lib.Dec.{T, leb}
use borrow.Author.Tests.{leb-true, leb-false}
use Rattle.laws.specs.Lists.{and_right}
use Rattle.steps.specs.Limits.{exponent_limit}
use Rattle.steps.specs.Settings.{Settings}
use Rattle.filter.specs.Sample.{outcome, normalised_exponent, SameValues}
use Rattle.filter.proofs.NextLaws.{next_ψ}
use Rattle.filter.proofs.OutcomeLaws.{passes}
use Rattle.block.specs.Block.{Block, Memory, Γ, start, after, at, ψFits, entry_at, next_memory, Raises, SameWeights}
use Rattle.block.specs.Sound.{Sound, Acceptable}
use Rattle.block.proofs.BlockCount.{ψ_fits_before, ψ_fits_never}
use Rattle.block.proofs.BlockHolds.{at_sample}

-- ---- where step 7 would raise ψ to 16

module _ (k : Settings) (o : Memory) (i : Block) where
  after_ψ : (n : ℕ) → (after k o i (suc n)).ψ ≡ normalised_exponent (outcome k (Γ k o i) (at k o i n) (entry_at k o i n)) (after k o i n).ψ
  unfolding after at
  after_ψ n = next_ψ k (Γ k o i) (at k o i n) (entry_at k o i n)

  module _ (h : o.ψ ≤ exponent_limit) where
    within : (n : ℕ) → ψFits k o i n ≡ true → (after k o i n).ψ ≤ exponent_limit
    unfolding ψFits after start
    within zero e = h
    within (suc n) e = leb-true _ _ (and_right (ψFits k o i n) _ e)

    raises_at : (n : ℕ) → n < k.N → ψFits k o i n ≡ true → leb (after k o i (suc n)).ψ exponent_limit ≡ false → Raises k o i
    raises_at n m e l =
        let p = passes (outcome k (Γ k o i) (at k o i n) (entry_at k o i n)) (after k o i n).ψ (within n e) (omega (arith, leb-false (after k o i (suc n)).ψ exponent_limit l, after_ψ n)) in
        record { place = n; in_block = m; within = λ j b. within j (ψ_fits_before k o i j n b e); highest = p.1; halves = p.0 }

    -- at a sample of the first n
    found : (n : ℕ) → n ≤ k.N → ψFits k o i n ≡ false → Raises k o i
    unfolding ψFits
    found zero m e = absurd (subst T e tt)
    found (suc n) m e = go (ψFits k o i n) refl e (found n (omega arith))
      where
        go : (b : Bool) → ψFits k o i n ≡ b → (b && leb (after k o i (suc n)).ψ exponent_limit) ≡ false → (ψFits k o i n ≡ false → Raises k o i) → Raises k o i
        go false q f rest = rest q
        go true q f rest = raises_at n m q f

    pub stopped_raises : ψFits k o i k.N ≡ false → Raises k o i
    stopped_raises e = found k.N (le_refl k.N) e

  pub raises_stopped : Raises k o i → ψFits k o i k.N ≡ false
  raises_stopped r = ψ_fits_never k o i r.place k.N r.in_block (omega (
    arith,
    after_ψ r.place,
    ap (λ s. normalised_exponent s (after k o i r.place).ψ) r.halves,
    r.highest,
  ))

-- ---- with M = 0

module _ (k : Settings) (o : Memory) (i : Block) (s : Sound k o) (a : Acceptable k i) (e : ψFits k o i k.N ≡ true) (m : k.M ≡ 0) where
  same_after : (n : ℕ) → n ≤ k.N → SameValues o.ψ o.forward o.back (after k o i n).ψ (after k o i n).forward (after k o i n).back
  unfolding after at start
  same_after zero h = record { ahead = refl; behind = refl }
  same_after (suc n) h =
      let f = (at_sample k o i s a e n h).frozen m in
      let p = same_after n (omega arith) in
      record { ahead = f.ahead ∙ p.ahead; behind = f.behind ∙ p.behind }

  pub frozen_memory : SameWeights o (next_memory k o i)
  unfolding next_memory
  frozen_memory = same_after k.N (le_refl k.N)
