-- All gains fit where the lowest and the highest do.
use mathlib.Core.Path.{◌≡◌, refl, sym, ap₂, ◌∙◌, subst}
use mathlib.Core.Bool.{Bool, true, false, ◌&&◌}
use mathlib.Core.List.{List}
use Prim.Native.Nat.{ℕ, ◌+◌, ◌<◌, min, max}
use native.Mathlib.Omega.{arith}
use lib.Dec.{leb}
use lib.ListN.{length, get_or}
use borrow.Author.Tests.{le-leb, lt-leb, leb-true, leb-false}
use Rattle.laws.specs.Loops.{Tested, tested_next}
use Rattle.steps.specs.Limits.{gain_limit}
use Rattle.checks.specs.Checks.{gain_fits}

min_above : (k a b : ℕ) (x y : Bool) → leb k a ≡ x → leb k b ≡ y → leb k (min a b) ≡ (x && y)
min_above k a b true true e f = le-leb k (min a b) (omega (arith, leb-true k a e, leb-true k b f))
min_above k a b true false e f = lt-leb k (min a b) (omega (arith, leb-false k b f))
min_above k a b false y e f = lt-leb k (min a b) (omega (arith, leb-false k a e))

max_below : (k a b : ℕ) (x y : Bool) → leb a k ≡ x → leb b k ≡ y → leb (max a b) k ≡ (x && y)
max_below k a b true true e f = le-leb (max a b) k (omega (arith, leb-true a k e, leb-true b k f))
max_below k a b true false e f = lt-leb (max a b) k (omega (arith, leb-false b k f))
max_below k a b false y e f = lt-leb (max a b) k (omega (arith, leb-false a k e))

exchange : (a b c d : Bool) → ((a && b) && (c && d)) ≡ ((a && c) && (b && d))
exchange true true c d = refl
exchange true false true d = refl
exchange true false false d = refl
exchange false b c d = refl

module _ (L : ℕ) where
  -- whether gains from low to high fit
  abbrev pub between : ℕ → ℕ → Bool
  between low high = leb L low && leb high gain_limit

  between_next : (low high g : ℕ) → between (min low g) (max high g) ≡ (between low high && gain_fits L g)
  between_next low high g =
      ap₂ (λ (a b : Bool). a && b) (min_above L low g (leb L low) (leb L g) refl refl) (max_below gain_limit high g (leb high gain_limit) (leb g gain_limit) refl refl)
      ∙ exchange (leb L low) (leb L g) (leb high gain_limit) (leb g gain_limit)

  -- the first i gains are from low to high
  abbrev pub Ranged : List ℕ → ℕ → ℕ → ℕ → Type 0
  Ranged gains low high i = Tested (gain_fits L) gains (between low high) i

  pub ranged_next : (gains : List ℕ) (low high i : ℕ) → i < length gains → Ranged gains low high i →
      Ranged gains (min low (get_or gains i 0)) (max high (get_or gains i 0)) (i + 1)
  ranged_next gains low high i h t =
      subst (λ (b : Bool). Tested (gain_fits L) gains b (i + 1)) (sym (between_next low high (get_or gains i 0))) (tested_next t 0 h refl)
