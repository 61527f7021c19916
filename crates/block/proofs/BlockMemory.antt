-- What a block leaves and hands out, by its result.
use mathlib.Core.Path.{◌≡◌, sym, ap, ap₂, ◌∙◌}
use mathlib.Core.Bool.{true}
use mathlib.Core.List.{List}
use Prim.Native.Nat.{ℕ, ◌-◌}
use lib.Dec.{leb}
use lib.ListN.{take}
use lib.IntN.{ℤ}
use Rattle.laws.specs.Loops.{overlay_all}
use Rattle.laws.specs.Values.{values_length}
use Rattle.steps.specs.Limits.{exponent_limit}
use Rattle.steps.specs.Settings.{Settings}
use Rattle.filter.specs.Sample.{FilterState}
use Rattle.filter.specs.Calls.{filter_state_of}
use Rattle.block.specs.Block.{Block, Memory, Outputs, newb, new_b, after, ψFits, block_outputs, next_memory, outputs_of}
use Rattle.block.specs.Calls.{count, outputs_up_to, OutputsLong, BlockResultIs}
use Rattle.block.specs.Sound.{Sound}
use Rattle.block.specs.declared.run.BlockResult.{BlockResult}
use Rattle.block.proofs.BlockCount.{count_all, ψ_fits_count}

-- lists that are the same, one by one
pub same_outputs : {y y' : List ℤ} {xi xi' : List ℕ} {decision decision' z z' : List ℤ} {theta theta' : List ℕ} → y ≡ y' → xi ≡ xi' → decision ≡ decision' → z ≡ z' → theta ≡ theta' →
    outputs_of y xi decision z theta ≡ outputs_of y' xi' decision' z' theta'
same_outputs ey ex ed ez et = rw (ey, ex, ed, ez, et)

module _ (k : Settings) (o : Memory) (i : Block) where
  -- each list has an element for each sample
  pub block_long : OutputsLong k (block_outputs k o i)
  unfolding block_outputs
  block_long = record {
    y_long = values_length _ k.N;
    xi_long = values_length _ k.N;
    decision_long = values_length _ k.N;
    z_long = values_length _ k.N;
    theta_long = values_length _ k.N;
  }

  -- where ψ keeps its limit nothing of the lent lists is left
  pub block_all : ψFits k o i k.N ≡ true → (l : Outputs) → OutputsLong k l →
      outputs_up_to k o i (count k o i k.N) l ≡ block_outputs k o i
  block_all e l h = rw (
    count_all k o i k.N e,
    overlay_all k.N (block_outputs k o i).y l.y block_long.y_long h.y_long,
    overlay_all k.N (block_outputs k o i).xi l.xi block_long.xi_long h.xi_long,
    overlay_all k.N (block_outputs k o i).decision l.decision block_long.decision_long h.decision_long,
    overlay_all k.N (block_outputs k o i).z l.z block_long.z_long h.z_long,
    overlay_all k.N (block_outputs k o i).theta l.theta block_long.theta_long h.theta_long,
  )

module _ {k : Settings} {o : Memory} {i : Block} {l : Outputs} {r : BlockResult} {forward back window symbols : List ℤ} {l' : Outputs}
    (h : BlockResultIs k o i l r forward back window symbols l') where
  -- whether ψ kept its limit
  pub ψ_fits_is : Sound k o → ψFits k o i k.N ≡ leb r.psi exponent_limit
  ψ_fits_is s = ψ_fits_count k o i s.ψ_most k.N ∙ ap (λ (t : FilterState). leb t.ψ exponent_limit) (sym h.filter_state_is)

  -- then this is left to the next block
  pub next_memory_is : ψFits k o i k.N ≡ true →
      next_memory k o i ≡ record { forward = forward; back = back; samples = take (k.p - 1) window; symbols = symbols; ψ = r.psi; b = r.b; B = r.bmax }
  unfolding next_memory
  next_memory_is e =
      ap (λ (t : FilterState). memory_of t (newb k o i) (new_b k o i)) (ap (after k o i) (sym (count_all k o i k.N e)) ∙ sym h.filter_state_is)
      ∙ ap₂ (λ (b B : ℕ). memory_of (filter_state_of forward back window symbols r.psi) b B) (sym h.b) (sym h.bmax)
    where
      memory_of : FilterState → ℕ → ℕ → Memory
      memory_of t b B = record { forward = t.forward; back = t.back; samples = take (k.p - 1) t.samples; symbols = t.symbols; ψ = t.ψ; b = b; B = B }
