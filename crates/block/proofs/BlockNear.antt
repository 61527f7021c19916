-- A stored sample is close to the value that was received.
use mathlib.Core.Path.{◌≡◌, sym, ap, ◌∙◌}
use mathlib.Core.List.{[], ◌∷◌}
use Prim.Native.Nat.{ℕ, suc, ◌+◌, ◌*◌, ◌-◌, ◌^◌, ◌≤◌, ◌<◌, max}
use native.Mathlib.Omega.{arith}
use native.Mathlib.Nat.{max-eq_left, max-eq_right, mul-le-mul_right}
use native.Mathlib.Decide.{dec_le}
use lib.ListN.{length, get_or}
use lib.IntN.{ℤ, pos, nat_abs, ◌-ℤ◌, ◌*ℤ◌}
use Rattle.laws.specs.Integers.{abs_mul, abs_sub}
use Rattle.laws.specs.Linear.{diff, atom, by_abs_lt, of_abs_lt}
use Rattle.laws.specs.Powers.{split}
use Rattle.laws.specs.Ring.{ring, terms}
use Rattle.numbers.specs.Cut.{cut, raise, rescale}
use Rattle.numbers.proofs.CutLaws.{cut_error, rescale_up, rescale_down}
use Rattle.steps.specs.Limits.{data_unit}
use Rattle.steps.specs.Settings.{Settings, scale_forward}
use Rattle.block.specs.Block.{Block, Memory, received_all, new_b, stored, at, next_memory, QuantisedWithin, StoredNear}
use Rattle.block.specs.Sound.{Sound, Acceptable}
use Rattle.block.proofs.BlockStored.{stored_at, old_at}
use Rattle.block.proofs.BlockWindow.{at_new, at_old, next_memory_at, next_memory_length}

-- ---- one sample

-- stored
stored_off : (x : ℤ) (e : ℕ) → QuantisedWithin e e (rescale x data_unit e) x
stored_off x e = turn (raise x data_unit) (raise (rescale x data_unit e) e) (cut_error (raise x data_unit) e)
  where
    turn : (a b : ℤ) → nat_abs (a -ℤ b) < 2 ^ e → nat_abs (b -ℤ a) < 2 ^ e
    turn a b h = by_abs_lt (b -ℤ a) (diff (atom b) (atom a)) (omega (arith, of_abs_lt (a -ℤ b) (diff (atom a) (atom b)) h))

-- cut by K from the unit U: a remainder in whole numbers is at most K − 1
coarser : (a c x : ℤ) (K U Q : ℕ) → Q ≡ K * U → nat_abs (a -ℤ c *ℤ pos K) < K → nat_abs (a *ℤ pos U -ℤ x) < U → nat_abs (c *ℤ pos Q -ℤ x) < Q
coarser a c x K U Q q h e = omega (
  arith,
  ap nat_abs whole,
  abs_sub (a *ℤ pos U -ℤ x) ((a -ℤ c *ℤ pos K) *ℤ pos U),
  abs_mul (a -ℤ c *ℤ pos K) (pos U),
  mul-le-mul_right U h,
)
  where
    whole : c *ℤ pos Q -ℤ x ≡ (a *ℤ pos U -ℤ x) -ℤ (a -ℤ c *ℤ pos K) *ℤ pos U
    whole = ap (λ (n : ℕ). c *ℤ pos n -ℤ x) q ∙ ring (a ∷ c ∷ x ∷ pos K ∷ pos U ∷ []) (search terms depth 40) tt

-- raised by K: nothing is lost
finer : (a x : ℤ) (K U Q : ℕ) → Q ≡ K * U → nat_abs (a *ℤ pos Q -ℤ x) < Q → nat_abs ((a *ℤ pos K) *ℤ pos U -ℤ x) < Q
finer a x K U Q q h = omega (arith, ap nat_abs whole)
  where
    whole : (a *ℤ pos K) *ℤ pos U -ℤ x ≡ a *ℤ pos Q -ℤ x
    whole = ring (a ∷ x ∷ pos K ∷ pos U ∷ []) (search terms depth 40) tt ∙ ap (λ (n : ℕ). a *ℤ pos n -ℤ x) (sym q)

-- at the exponent B' of a later block, whether above or below B
later_off : (A X : ℤ) (B B' S : ℕ) → QuantisedWithin (B + S) (B + S) A X → QuantisedWithin (B' + S) (max B B' + S) (rescale A B B') X
later_off A X B B' S h = go (dec_le B B')
  where
    go : Dec (B ≤ B') → QuantisedWithin (B' + S) (max B B' + S) (rescale A B B') X
    go (yes l) =
        rw (max-eq_right l, rescale_down A B B' (B' - B) (omega arith))
        (coarser A (cut A (B' - B)) (raise X data_unit) (2 ^ (B' - B)) (2 ^ (B + S)) (2 ^ (B' + S)) (split (B' + S) (B' - B) (B + S) (omega arith)) (cut_error A (B' - B)) h)
    go (no l) =
        rw (max-eq_left {n = B} {m = B'} (omega arith), rescale_up A B B' (B - B') (omega arith))
        (finer A (raise X data_unit) (2 ^ (B - B')) (2 ^ (B' + S)) (2 ^ (B + S)) (split (B + S) (B - B') (B' + S) (omega arith)) h)

-- ---- all of them

module _ (k : Settings) (o : Memory) (i : Block) (a : Acceptable k i) where
  pub stored_near : StoredNear k o i
  stored_near n h = rw (stored_at k o i a n h) (stored_off (get_or (received_all i.samples i.gains) n (pos 0)) (new_b k o i + scale_forward k))

  -- at the exponent B' of a later block
  stored_later : (n B' : ℕ) → n < k.N →
      QuantisedWithin (B' + scale_forward k) (max (new_b k o i) B' + scale_forward k) (rescale (get_or (stored k o i) n (pos 0)) (new_b k o i) B')
      (get_or (received_all i.samples i.gains) n (pos 0))
  stored_later n B' h = later_off (get_or (stored k o i) n (pos 0)) (get_or (received_all i.samples i.gains) n (pos 0)) (new_b k o i) B' (scale_forward k) (stored_near n h)

-- the samples that the weights meet
module _ (k : Settings) (o : Memory) (i : Block) (s : Sound k o) (a : Acceptable k i) where
  -- at sample n of their own block, where the place j holds sample n − j
  pub met_near : (n j : ℕ) → n < k.N → j < k.p → j ≤ n →
      QuantisedWithin (new_b k o i + scale_forward k) (new_b k o i + scale_forward k) (get_or (at k o i n).samples j (pos 0))
      (get_or (received_all i.samples i.gains) (n - j) (pos 0))
  met_near n j h l e = rw (at_new k o i s.within.p_least s.samples_long n j (n - j) l (omega arith)) (stored_near k o i a (n - j) (omega arith))

  next_long : length (next_memory k o i).samples ≡ k.p - 1
  next_long = next_memory_length k o i s.within.p_least s.samples_long

  -- at sample n of any block that runs on what this one left, where the place j holds this block's sample N + n − j
  pub met_later : (i' : Block) (n j : ℕ) → n < k.N → j < k.p → n < j →
      QuantisedWithin (new_b k (next_memory k o i) i' + scale_forward k) (max (new_b k o i) (new_b k (next_memory k o i) i') + scale_forward k)
      (get_or (at k (next_memory k o i) i' n).samples j (pos 0)) (get_or (received_all i.samples i.gains) (k.N + n - j) (pos 0))
  unfolding next_memory
  met_later i' n j h l e = rw (
    at_old k (next_memory k o i) i' s.within.p_least next_long n j (j - suc n) l (omega arith),
    old_at k (next_memory k o i) i' (j - suc n) (omega (arith, next_long)),
    next_memory_at k o i s.within.p_least s.samples_long (j - suc n) (k.N + n - j) (omega arith) (omega arith),
  ) (stored_later k o i a (k.N + n - j) (new_b k (next_memory k o i) i') (omega arith))
