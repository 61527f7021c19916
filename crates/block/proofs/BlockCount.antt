-- How many samples of a block are run.
use mathlib.Core.Path.{◌≡◌, refl, sym, ap, ◌∙◌}
use mathlib.Core.Bool.{Bool, true, false, ◌&&◌, cond}
use mathlib.Core.Logic.{◌⊎◌, inl, inr}
use Prim.Native.Nat.{ℕ, zero, suc, ◌≤◌, ◌<◌}
use native.Mathlib.Omega.{arith}
use native.Mathlib.Nat.{le_antisymm, eq-or-lt_of_le}
use lib.Dec.{leb}
use borrow.Author.Tests.{le-leb, lt-leb}
use Rattle.laws.specs.Lists.{and_left, and_right}
use Rattle.steps.specs.Limits.{exponent_limit}
use Rattle.steps.specs.Settings.{Settings}
use Rattle.block.specs.Block.{Block, Memory, start, after, ψFits}
use Rattle.block.specs.Calls.{count}

module _ (k : Settings) (o : Memory) (i : Block) where
  -- ψ stayed within its limit up to any earlier sample
  pub ψ_fits_before : (m n : ℕ) → m ≤ n → ψFits k o i n ≡ true → ψFits k o i m ≡ true
  unfolding ψFits
  ψ_fits_before m zero h e = ap (ψFits k o i) (le_antisymm h (omega arith)) ∙ e
  ψ_fits_before m (suc n) h e = go (eq-or-lt_of_le h) (λ l. ψ_fits_before m n l (and_left (ψFits k o i n) _ e))
    where
      go : (m ≡ suc n) ⊎ (m < suc n) → (m ≤ n → ψFits k o i m ≡ true) → ψFits k o i m ≡ true
      go (inl q) rest = ap (ψFits k o i) q ∙ e
      go (inr l) rest = rest (omega arith)

  -- and once it has passed it, every later count fails
  pub ψ_fits_never : (m n : ℕ) → m < n → exponent_limit < (after k o i (suc m)).ψ → ψFits k o i n ≡ false
  unfolding ψFits
  ψ_fits_never m n h l = go (ψFits k o i n) refl
    where
      go : (b : Bool) → ψFits k o i n ≡ b → b ≡ false
      go false e = refl
      go true e = sym (and_right (ψFits k o i m) _ (ψ_fits_before (suc m) n h e)) ∙ lt-leb _ _ l

  pub count_most : (n : ℕ) → count k o i n ≤ n
  unfolding count
  count_most zero = omega arith
  count_most (suc n) = go (ψFits k o i n) (count_most n)
    where
      go : (b : Bool) → count k o i n ≤ n → cond b (suc n) (count k o i n) ≤ suc n
      go true h = omega arith
      go false h = omega arith

  -- all, where ψ keeps its limit
  pub count_all : (n : ℕ) → ψFits k o i n ≡ true → count k o i n ≡ n
  unfolding count
  count_all zero e = refl
  count_all (suc n) e = rw (ψ_fits_before n (suc n) (omega arith) e)

  -- up to and with sample m, where ψ passes it
  pub count_stopped : (m n : ℕ) → m < n → ψFits k o i m ≡ true → exponent_limit < (after k o i (suc m)).ψ → count k o i n ≡ suc m
  unfolding count
  count_stopped m zero h e l = absurd (omega arith)
  count_stopped m (suc n) h e l = go (eq-or-lt_of_le {n = m} {m = n} (omega arith)) (λ j. count_stopped m n j e l)
    where
      go : (m ≡ n) ⊎ (m < n) → (m < n → count k o i n ≡ suc m) → cond (ψFits k o i n) (suc n) (count k o i n) ≡ suc m
      go (inl q) rest = rw (sym q, e)
      go (inr j) rest = rw (ψ_fits_never m n j l) (rest j)

  -- ψ after the last that is run tells whether all are
  pub ψ_fits_count : o.ψ ≤ exponent_limit → (n : ℕ) → ψFits k o i n ≡ leb (after k o i (count k o i n)).ψ exponent_limit
  unfolding ψFits count after start
  ψ_fits_count h zero = sym (le-leb _ _ h)
  ψ_fits_count h (suc n) = go (ψFits k o i n) refl (ψ_fits_count h n)
    where
      go : (b : Bool) → ψFits k o i n ≡ b → b ≡ leb (after k o i (count k o i n)).ψ exponent_limit →
          (b && leb (after k o i (suc n)).ψ exponent_limit) ≡ leb (after k o i (cond b (suc n) (count k o i n))).ψ exponent_limit
      go true e f = refl
      go false e f = f
