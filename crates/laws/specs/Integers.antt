-- The ring laws of ℤ and the laws of the magnitude that the toolchain's integers lack.
use Rattle.std.specs.Prelude.{◌≡◌, refl, ℕ, suc, ◌+◌, ◌*◌, ◌≤◌, ℤ, pos, negsuc, neg_ℤ, nat_abs, ◌+ℤ◌, ◌-ℤ◌, ◌*ℤ◌}
use Rattle.std.proofs.Common.{ap, arith}
use Rattle.std.proofs.Math.IntN.{*ℤ_comm}
use Rattle.laws.specs.Parts.{up, down, up_neg, down_neg, up_pos, down_pos, abs_parts, add_parts, mul_parts, same_parts}

-- ---- products

pub *ℤ_add : (a b c : ℤ) → a *ℤ (b +ℤ c) ≡ a *ℤ b +ℤ a *ℤ c
*ℤ_add a b c =
    same_parts _ _ (omega (
      arith,
      mul_parts a (b +ℤ c),
      add_parts (a *ℤ b) (a *ℤ c),
      mul_parts a b,
      mul_parts a c,
      ap (λ (n : ℕ). up a * n) (add_parts b c),
      ap (λ (n : ℕ). down a * n) (add_parts b c),
    ))

pub add-*ℤ : (a b c : ℤ) → (a +ℤ b) *ℤ c ≡ a *ℤ c +ℤ b *ℤ c
add-*ℤ a b c = simp (*ℤ_comm (a +ℤ b) c, *ℤ_add, *ℤ_comm c a, *ℤ_comm c b)

pub *ℤ_assoc : (a b c : ℤ) → (a *ℤ b) *ℤ c ≡ a *ℤ (b *ℤ c)
*ℤ_assoc a b c =
    same_parts _ _ (omega (
      arith,
      mul_parts (a *ℤ b) c,
      mul_parts a (b *ℤ c),
      ap (λ (n : ℕ). n * up c) (mul_parts a b),
      ap (λ (n : ℕ). n * down c) (mul_parts a b),
      ap (λ (n : ℕ). up a * n) (mul_parts b c),
      ap (λ (n : ℕ). down a * n) (mul_parts b c),
    ))

pub neg-*ℤ : (a b : ℤ) → neg_ℤ a *ℤ b ≡ neg_ℤ (a *ℤ b)
neg-*ℤ a b =
    same_parts _ _ (omega (
      arith,
      mul_parts (neg_ℤ a) b,
      mul_parts a b,
      up_neg (a *ℤ b),
      down_neg (a *ℤ b),
      ap (λ (n : ℕ). n * up b) (up_neg a),
      ap (λ (n : ℕ). n * down b) (up_neg a),
      ap (λ (n : ℕ). n * up b) (down_neg a),
      ap (λ (n : ℕ). n * down b) (down_neg a),
    ))

pub one-*ℤ : (a : ℤ) → pos 1 *ℤ a ≡ a
one-*ℤ a = same_parts _ _ (omega (arith, mul_parts (pos 1) a, ap (λ (n : ℕ). n * up a) (up_pos 1), ap (λ (n : ℕ). n * down a) (up_pos 1), ap (λ (n : ℕ). n * up a) (down_pos 1), ap (λ (n : ℕ). n * down a) (down_pos 1)))

-- ---- magnitudes

pub abs_neg : (a : ℤ) → nat_abs (neg_ℤ a) ≡ nat_abs a
abs_neg a = omega (arith, abs_parts a, abs_parts (neg_ℤ a), up_neg a, down_neg a)

pub abs_mul : (a b : ℤ) → nat_abs (a *ℤ b) ≡ nat_abs a * nat_abs b
abs_mul (pos a) (pos b) = refl
abs_mul (pos a) (negsuc b) = abs_neg (pos (a * suc b))
abs_mul (negsuc a) (pos b) = abs_neg (pos (suc a * b))
abs_mul (negsuc a) (negsuc b) = refl

pub abs_bounds : (a : ℤ) (k : ℕ) → up a ≤ down a + k → down a ≤ up a + k → nat_abs a ≤ k
unfolding up down
abs_bounds (pos n) k h g = omega arith
abs_bounds (negsuc n) k h g = omega arith

pub abs_add : (a b : ℤ) → nat_abs (a +ℤ b) ≤ nat_abs a + nat_abs b
abs_add a b = abs_bounds (a +ℤ b) (nat_abs a + nat_abs b)
    (omega (arith, add_parts a b, abs_parts a, abs_parts b)) (omega (arith, add_parts a b, abs_parts a, abs_parts b))

pub abs_sub : (a b : ℤ) → nat_abs (a -ℤ b) ≤ nat_abs a + nat_abs b
abs_sub a b = omega (arith, abs_add a (neg_ℤ b), abs_neg b)

pub abs_zero : (a : ℤ) → nat_abs a ≡ 0 → a ≡ pos 0
abs_zero (pos n) h = ap pos h
abs_zero (negsuc n) h = absurd (omega arith)
