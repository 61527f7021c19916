-- The stored samples that the weights meet: this block's, newest first, then the old ones.
use mathlib.Core.Path.{◌≡◌, sym, ap, ◌∙◌}
use mathlib.Core.List.{List, [], ◌∷◌}
use Prim.Native.Nat.{ℕ, zero, suc, ◌+◌, ◌-◌, ◌≤◌, ◌<◌}
use native.Mathlib.Omega.{arith}
use lib.ListN.{length, get_or, length-append, get_or-append}
use lib.Seq.{length-take-le, get_or-take}
use lib.IntN.{ℤ, pos}
use Rattle.steps.specs.Settings.{Settings}
use Rattle.steps.specs.Fir.{push}
use Rattle.filter.proofs.NextLaws.{next_samples}
use Rattle.block.specs.Block.{Block, Memory, Γ, stored, old, start, after, at, next_memory}
use Rattle.steps.proofs.FirLaws.{push_length, push_at}
use Rattle.block.proofs.BlockStored.{old_length}

same_place : (l : List ℤ) (m n : ℕ) → m ≡ n → get_or l m (pos 0) ≡ get_or l n (pos 0)
same_place l m n e = ap (λ (j : ℕ). get_or l j (pos 0)) e

-- the samples when one more is done
pub after_next : (k : Settings) (o : Memory) (i : Block) (n : ℕ) → (after k o i (suc n)).samples ≡ push (get_or (stored k o i) n (pos 0)) (after k o i n).samples
unfolding after
after_next k o i n = next_samples k (Γ k o i) _ _

module _ (k : Settings) (o : Memory) (i : Block) (p_least : 1 ≤ k.p) (long : length o.samples ≡ k.p - 1) where
  pub after_length : (n : ℕ) → length (after k o i n).samples ≡ k.p
  unfolding after start
  after_length zero = length-append (old k o i) (pos 0 ∷ []) ∙ omega (arith, old_length k o i long)
  after_length (suc n) = ap length (after_next k o i n) ∙ push_length (get_or (stored k o i) n (pos 0)) (after k o i n).samples ∙ after_length n

  -- the samples at a sample are those when it is done
  at_after : (n : ℕ) → (at k o i n).samples ≡ (after k o i (suc n)).samples
  unfolding at
  at_after n = sym (after_next k o i n)

  -- when one sample more is done
  after_push : (n j : ℕ) → j < k.p → get_or (after k o i (suc n)).samples j (pos 0) ≡ get_or (get_or (stored k o i) n (pos 0) ∷ (after k o i n).samples) j (pos 0)
  after_push n j h = ap (λ (s : List ℤ). get_or s j (pos 0)) (after_next k o i n) ∙ push_at (get_or (stored k o i) n (pos 0)) (after k o i n).samples j (omega (arith, after_length n))

  -- when n samples are done, the places before n hold those of this block
  after_new : (n j m : ℕ) → j < k.p → n ≡ suc (j + m) → get_or (after k o i n).samples j (pos 0) ≡ get_or (stored k o i) m (pos 0)
  after_new zero j m h e = absurd (omega arith)
  after_new (suc n) zero m h e = after_push n 0 h ∙ same_place (stored k o i) n m (omega arith)
  after_new (suc n) (suc j) m h e = after_push n (suc j) h ∙ after_new n j m (omega arith) (omega arith)

  -- and the later ones the old samples
  after_old : (n j m : ℕ) → j < k.p → m < k.p - 1 → j ≡ n + m → get_or (after k o i n).samples j (pos 0) ≡ get_or (old k o i) m (pos 0)
  unfolding after start
  after_old zero j m h l e = get_or-append (old k o i) (pos 0 ∷ []) (pos 0) j (omega (arith, old_length k o i long)) ∙ same_place (old k o i) j m (omega arith)
  after_old (suc n) zero m h l e = absurd (omega arith)
  after_old (suc n) (suc j) m h l e = after_push n (suc j) h ∙ after_old n j m (omega arith) l (omega arith)

  -- the same at sample n, which is the newest then
  pub at_new : (n j m : ℕ) → j < k.p → n ≡ j + m → get_or (at k o i n).samples j (pos 0) ≡ get_or (stored k o i) m (pos 0)
  at_new n j m h e = ap (λ (s : List ℤ). get_or s j (pos 0)) (at_after n) ∙ after_new (suc n) j m h (omega arith)

  pub at_old : (n j m : ℕ) → j < k.p → j ≡ suc (n + m) → get_or (at k o i n).samples j (pos 0) ≡ get_or (old k o i) m (pos 0)
  at_old n j m h e = ap (λ (s : List ℤ). get_or s j (pos 0)) (at_after n) ∙ after_old (suc n) j m h (omega arith) (omega arith)

  -- what the block leaves
  pub next_memory_length : length (next_memory k o i).samples ≡ k.p - 1
  unfolding next_memory
  next_memory_length = length-take-le (k.p - 1) (after k o i k.N).samples (omega (arith, after_length k.N))

  pub next_memory_at : (j m : ℕ) → j < k.p - 1 → k.N ≡ suc (j + m) → get_or (next_memory k o i).samples j (pos 0) ≡ get_or (stored k o i) m (pos 0)
  unfolding next_memory
  next_memory_at j m h e = get_or-take (k.p - 1) (after k o i k.N).samples j (pos 0) h ∙ after_new k.N j m (omega arith) e
