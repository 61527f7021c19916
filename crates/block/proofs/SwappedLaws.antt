-- A block with the two conductors swapped: it goes as far, hands out the same and leaves what is swapped.
use mathlib.Core.Path.{◌≡◌, refl, ap, ap₂, ◌∙◌, fun_ext}
use mathlib.Core.Bool.{Bool, ◌&&◌}
use mathlib.Core.List.{List, [], ◌∷◌, map-append}
use Prim.Native.Nat.{ℕ, zero, suc, ◌+◌, ◌*◌, ◌-◌, ◌^◌, ◌<◌}
use lib.Dec.{leb}
use lib.ListN.{length-map}
use lib.IntN.{ℤ, neg_ℤ}
use Rattle.laws.specs.Negated.{negated, negated_negated, map_odd, each_negated, negated_at, negated_take}
use Rattle.laws.specs.Values.{values}
use Rattle.numbers.specs.Cut.{rescale}
use Rattle.numbers.proofs.CutLaws.{raise_neg, rescale_neg}
use Rattle.steps.specs.Limits.{data_unit, gain_limit, exponent_limit, halving_limit}
use Rattle.steps.specs.Settings.{Settings, scale_forward}
use Rattle.steps.proofs.NegatedLaws.{push_neg, magnitudes_neg}
use Rattle.filter.specs.Sample.{FilterState, Y, ξ, decision, Z, θ, next}
use Rattle.filter.proofs.NegatedLaws.{swapped_filter_state, Y_same, ξ_same, decision_same, Z_same, θ_same, next_swapped}
use Rattle.block.specs.Block.{Block, Memory, received_all, newb, new_b, Γ, stored, old, start, entered, after, at, entry_at, ψFits, block_outputs, next_memory}
use Rattle.block.specs.Sound.{Sound}
use Rattle.block.specs.Swapped.{swapped, swapped_block}
use Rattle.block.proofs.BlockMemory.{same_outputs}

pub swapped_back : (o : Memory) → swapped (swapped o) ≡ o
swapped_back o = rw (negated_negated o.forward, negated_negated o.samples)

received_neg : (m : List ℤ) (gains : List ℕ) → received_all (negated m) gains ≡ negated (received_all m gains)
unfolding received_all
received_neg [] gs = refl
received_neg (m ∷ ms) [] = refl
received_neg (m ∷ ms) (x ∷ gs) = ap₂ ◌∷◌ (raise_neg m (gain_limit - x)) (received_neg ms gs)

module _ (k : Settings) (o : Memory) (i : Block) where
  abbrev o' : Memory
  o' = swapped o

  abbrev i' : Block
  i' = swapped_block i

  -- ---- the exponents see magnitudes only

  newb_same : newb k o' i' ≡ newb k o i
  unfolding newb
  newb_same = rw (received_neg, magnitudes_neg)

  new_b_same : new_b k o' i' ≡ new_b k o i
  unfolding new_b
  new_b_same = rw newb_same

  Γ_same : Γ k o' i' ≡ Γ k o i
  unfolding Γ
  Γ_same = rw new_b_same

  -- ---- the stored samples

  stored_neg : stored k o' i' ≡ negated (stored k o i)
  unfolding stored
  stored_neg =
      rw (new_b_same, received_neg)
      (map_odd (λ (x : ℤ). rescale x data_unit (new_b k o i + scale_forward k)) (λ x. rescale_neg x data_unit (new_b k o i + scale_forward k)) (received_all i.samples i.gains))

  old_neg : old k o' i' ≡ negated (old k o i)
  unfolding old
  old_neg = rw new_b_same (map_odd (λ (a : ℤ). rescale a o.B (new_b k o i)) (λ a. rescale_neg a o.B (new_b k o i)) o.samples)

  -- ---- sample by sample

  start_swapped : start k o' i' ≡ swapped_filter_state (start k o i)
  unfolding start
  start_swapped = rw (old_neg, map-append)

  entered_swapped : (n : ℕ) (t : FilterState) {t' : FilterState} → t' ≡ swapped_filter_state t → entered k o' i' n t' ≡ swapped_filter_state (entered k o i n t)
  entered_swapped n t e = rw (e, stored_neg, negated_at, push_neg)

  after_swapped : (n : ℕ) → after k o' i' n ≡ swapped_filter_state (after k o i n)
  unfolding after
  after_swapped zero = start_swapped
  after_swapped (suc n) =
      ap₂ (λ (γ : ℕ) (t : FilterState). next k γ t (entry_at k o i n)) Γ_same (entered_swapped n (after k o i n) (after_swapped n))
      ∙ next_swapped k (Γ k o i) (entered k o i n (after k o i n)) (entry_at k o i n)

  at_swapped : (n : ℕ) → at k o' i' n ≡ swapped_filter_state (at k o i n)
  unfolding at
  at_swapped n = entered_swapped n (after k o i n) (after_swapped n)

  pub ψ_fits_same : (n : ℕ) → ψFits k o' i' n ≡ ψFits k o i n
  unfolding ψFits
  ψ_fits_same zero = refl
  ψ_fits_same (suc n) = ap₂ (λ (b : Bool) (t : FilterState). b && leb t.ψ exponent_limit) (ψ_fits_same n) (after_swapped (suc n))

  -- ---- what it hands out and leaves

  -- a value of each sample that is the same of a swapped filter state
  each_same : {A : Type 0} (f : Settings → ℕ → FilterState → ℤ → A) → ((Γ₀ : ℕ) (t : FilterState) (e : ℤ) → f k Γ₀ (swapped_filter_state t) e ≡ f k Γ₀ t e) →
      values (λ n. f k (Γ k o' i') (at k o' i' n) (entry_at k o' i' n)) k.N ≡ values (λ n. f k (Γ k o i) (at k o i n) (entry_at k o i n)) k.N
  each_same f h = ap (λ h. values h k.N) (fun_ext (λ n. rw (Γ_same, at_swapped) (h (Γ k o i) (at k o i n) (entry_at k o i n))))

  pub block_same : block_outputs k o' i' ≡ block_outputs k o i
  unfolding block_outputs
  block_same = same_outputs (each_same Y (Y_same k)) (each_same ξ (ξ_same k)) (each_same decision (decision_same k)) (each_same Z (Z_same k)) (each_same θ (θ_same k))

  pub next_memory_swapped : next_memory k o' i' ≡ swapped (next_memory k o i)
  unfolding next_memory
  next_memory_swapped = rw (after_swapped, newb_same, new_b_same, negated_take)

-- ---- what is sound stays so

pub swapped_sound : (k : Settings) (o : Memory) → Sound k o → Sound k (swapped o)
swapped_sound k o s = record {
  within = s.within;
  admitted = s.admitted;
  forward_long = length-map o.forward neg_ℤ ∙ s.forward_long;
  back_long = s.back_long;
  samples_long = length-map o.samples neg_ℤ ∙ s.samples_long;
  symbols_long = s.symbols_long;
  forward_small = each_negated (λ n. n < halving_limit) o.forward s.forward_small;
  back_small = s.back_small;
  samples_small = each_negated (λ n. n * 2 ^ (o.B + scale_forward k) < 2 ^ (data_unit + o.b)) o.samples s.samples_small;
  symbols_are = s.symbols_are;
  ψ_most = s.ψ_most;
  b_most = s.b_most;
  B_most = s.B_most;
}
