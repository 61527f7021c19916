-- Symbols and entries as bounds, and the decision is a symbol.
use mathlib.Core.Path.{◌≡◌, refl, ap, ap₂, ◌∙◌}
use mathlib.Core.Bool.{Bool, true, false, cond, ◌&&◌, ◌||◌}
use Prim.Native.Nat.{ℕ, suc, ◌+◌, ◌*◌, ◌-◌, ◌%◌, ◌^◌, ◌≤◌, ◌<◌}
use native.Mathlib.Omega.{arith}
use native.Mathlib.Nat.{le_refl}
use borrow.Author.Tests.{leb-true, le-leb, lt-ltb, eqb-true, eq-eqb}
use lib.Dec.{leb, eqb}
use lib.IntN.{ℤ, pos, negsuc, neg_ℤ, nat_abs, ◌+ℤ◌, ◌*ℤ◌}
use lib.Signed.{lt_z, ◌≤ℤ◌}
use Rattle.laws.specs.Integers.{abs_neg}
use Rattle.laws.specs.Lists.{and_right}
use Rattle.laws.specs.Machine.{lt_refuted}
use Rattle.laws.specs.Powers.{split, positive}
use Rattle.steps.specs.Limits.{output_unit}
use Rattle.steps.specs.Settings.{is_symbol, is_entry}
use Rattle.steps.specs.Decision.{floor, clip, top_symbol, decide}
use Rattle.steps.proofs.DecisionLaws.{between_ends}

-- a symbol is below 2^(r+1) in magnitude
pub symbol_below : (r : ℕ) (v : ℤ) → is_symbol r v ≡ true → nat_abs v < 2 ^ (r + 1)
symbol_below r v e = omega (arith, leb-true (nat_abs v) (2 ^ (r + 1) - 1) (and_right (eqb (nat_abs v % 2) 1) (leb (nat_abs v) (2 ^ (r + 1) - 1)) e), positive (r + 1))

pub entry_below : (r : ℕ) (v : ℤ) → is_entry r v ≡ true → nat_abs v < 2 ^ (r + 1)
entry_below r v e = go (eqb (nat_abs v) 0) refl e
  where
    go : (b : Bool) → eqb (nat_abs v) 0 ≡ b → (b || is_symbol r v) ≡ true → nat_abs v < 2 ^ (r + 1)
    go true q h = omega (arith, eqb-true (nat_abs v) 0 q, positive (r + 1))
    go false q h = symbol_below r v h

-- ---- the decision

symbol_of : (r : ℕ) (v : ℤ) → nat_abs v % 2 ≡ 1 → nat_abs v ≤ 2 ^ (r + 1) - 1 → is_symbol r v ≡ true
symbol_of r v o l = ap₂ (λ (x y : Bool). x && y) (eq-eqb (nat_abs v % 2) 1 o) (le-leb (nat_abs v) (2 ^ (r + 1) - 1) l)

top_odd : (r : ℕ) → (2 ^ (r + 1) - 1) % 2 ≡ 1
top_odd r = omega (arith, split (r + 1) r 1 refl, positive r)

odd : (z : ℤ) → nat_abs (pos 2 *ℤ z +ℤ pos 1) % 2 ≡ 1
odd (pos n) = omega arith
odd (negsuc n) = omega (arith, negative (2 * suc n) (2 * n) (omega arith))
  where
    negative : (m l : ℕ) → m ≡ suc (suc l) → nat_abs (neg_ℤ (pos m) +ℤ pos 1) ≡ suc l
    negative m l e = ap (λ (m : ℕ). nat_abs (neg_ℤ (pos m) +ℤ pos 1)) e ∙ simp (lt-ltb 1 (suc (suc l)) (omega arith)) (omega arith)

-- the ends are symbols, and so is an odd number between them
clip_symbol : (r : ℕ) (d : ℤ) → nat_abs d % 2 ≡ 1 → is_symbol r (clip (top_symbol r) d) ≡ true
clip_symbol r d o = high (lt_z (top_symbol r) d) refl
  where
    low : (b : Bool) → lt_z d (neg_ℤ (top_symbol r)) ≡ b → d ≤ℤ top_symbol r → is_symbol r (cond b (neg_ℤ (top_symbol r)) d) ≡ true
    low true e h = symbol_of r (neg_ℤ (top_symbol r)) (rw (abs_neg (top_symbol r)) (top_odd r)) (omega (arith, abs_neg (top_symbol r)))
    low false e h = symbol_of r d o (between_ends (top_symbol r) d h (lt_refuted e))

    high : (b : Bool) → lt_z (top_symbol r) d ≡ b → is_symbol r (cond b (top_symbol r) (cond (lt_z d (neg_ℤ (top_symbol r))) (neg_ℤ (top_symbol r)) d)) ≡ true
    high true e = symbol_of r (top_symbol r) (top_odd r) (le_refl (2 ^ (r + 1) - 1))
    high false e = low (lt_z d (neg_ℤ (top_symbol r))) refl (lt_refuted e)

pub decide_symbol : (r : ℕ) (Y : ℤ) (ξ : ℕ) → is_symbol r (decide r Y ξ) ≡ true
unfolding decide
decide_symbol r Y ξ = clip_symbol r (pos 2 *ℤ floor Y (output_unit + 1 - ξ) +ℤ pos 1) (odd (floor Y (output_unit + 1 - ξ)))

pub symbol_entry : (r : ℕ) (v : ℤ) → is_symbol r v ≡ true → is_entry r v ≡ true
symbol_entry r v e = go (eqb (nat_abs v) 0)
  where
    go : (b : Bool) → (b || is_symbol r v) ≡ true
    go true = refl
    go false = e

-- the entry, or else what was decided
pub chosen_symbol : (r : ℕ) (entry d : ℤ) → is_entry r entry ≡ true → is_symbol r d ≡ true → is_symbol r (cond (eqb (nat_abs entry) 0) d entry) ≡ true
chosen_symbol r entry d e h = go (eqb (nat_abs entry) 0) e
  where
    go : (b : Bool) → (b || is_symbol r entry) ≡ true → is_symbol r (cond b d entry) ≡ true
    go true s = h
    go false s = s
