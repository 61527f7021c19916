-- The magnitude of a decision, which is a symbol.
use Prim.Native.Nat.{ℕ, ◌+◌, ◌^◌, ◌≤◌, ◌<◌}
use native.Mathlib.Omega.{arith}
use lib.IntN.{ℤ, nat_abs}
use Rattle.laws.specs.Powers.{rises}
use Rattle.steps.specs.Limits.{symbol_limit}
use Rattle.steps.specs.Settings.{Settings}
use Rattle.steps.proofs.SymbolLaws.{symbol_below, decide_symbol}
use Rattle.filter.specs.Sample.{FilterState, decision}

module _ (k : Settings) (Γ : ℕ) (t : FilterState) (entry : ℤ) where
  pub decision_below : nat_abs (decision k Γ t entry) < 2 ^ (k.r + 1)
  unfolding decision
  decision_below = symbol_below k.r (decision k Γ t entry) (decide_symbol k.r _ _)

  pub decision_most : k.r ≤ symbol_limit → nat_abs (decision k Γ t entry) < 2 ^ (symbol_limit + 1)
  decision_most h = omega (arith, decision_below, rises {a = k.r + 1} {b = symbol_limit + 1} (omega arith))
