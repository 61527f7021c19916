-- The two parts of a whole number: z is up z − down z, and one of them is 0.
use Rattle.std.specs.Prelude.{◌≡◌, refl, Bool, true, false, not, cond, ℕ, zero, suc, ◌+◌, ◌*◌, ◌-◌, ◌≤◌, ◌<◌, T, ltb, ℤ, pos, negsuc, neg_ℤ, nat_abs, ◌+ℤ◌, ◌-ℤ◌, ◌*ℤ◌, ◌≤ℤ◌}
use Rattle.std.proofs.Common.{ap, arith, ltb→lt, nltb→le, leb→le}
use Rattle.std.proofs.Math.IntN.{sub_ℕ}
use Rattle.std.specs.Int.Signed.{le_z}

unfoldable pub up : ℤ → ℕ
up (pos n) = n
up (negsuc n) = zero

unfoldable pub down : ℤ → ℕ
down (pos n) = zero
down (negsuc n) = suc n

pub up_pos : (n : ℕ) → up (pos n) ≡ n
unfolding up
up_pos n = refl

pub down_pos : (n : ℕ) → down (pos n) ≡ 0
unfolding down
down_pos n = refl

pub up_neg : (z : ℤ) → up (neg_ℤ z) ≡ down z
unfolding up down
up_neg (pos zero) = refl
up_neg (pos (suc n)) = refl
up_neg (negsuc n) = refl

pub down_neg : (z : ℤ) → down (neg_ℤ z) ≡ up z
unfolding up down
down_neg (pos zero) = refl
down_neg (pos (suc n)) = refl
down_neg (negsuc n) = refl

pub abs_parts : (z : ℤ) → nat_abs z ≡ up z + down z
unfolding up down
abs_parts (pos n) = omega arith
abs_parts (negsuc n) = omega arith

-- where one part exceeds the other, the other is 0
one_part : (z : ℤ) → up z * down z ≡ 0
unfolding up down
one_part (pos n) = omega arith
one_part (negsuc n) = omega arith

-- ---- sums and products

pub choose : (c : Bool) (x y : ℤ) (P : ℤ → Type 0) → (T c → P x) → (T (not c) → P y) → P (cond c x y)
choose true x y P f g = f tt
choose false x y P f g = g tt

sub_parts : (a b : ℕ) → up (sub_ℕ a b) + b ≡ down (sub_ℕ a b) + a
unfolding up down
sub_parts a b =
    choose (ltb a b) (negsuc (b - suc a)) (pos (a - b)) (λ z. up z + b ≡ down z + a)
    (λ t. below (ltb→lt a b t)) (λ t. above (nltb→le a b t))
  where
    below : a < b → 0 + b ≡ suc (b - suc a) + a
    below h = omega arith

    above : b ≤ a → (a - b) + b ≡ 0 + a
    above h = omega arith

pub add_parts : (a b : ℤ) → up (a +ℤ b) + (down a + down b) ≡ down (a +ℤ b) + (up a + up b)
unfolding up down
add_parts (pos a) (pos b) = omega arith
add_parts (pos a) (negsuc b) = omega (arith, sub_parts a (suc b))
add_parts (negsuc a) (pos b) = omega (arith, sub_parts b (suc a))
add_parts (negsuc a) (negsuc b) = omega arith

pub sub_parts_of : (a b : ℤ) → up (a -ℤ b) + (down a + up b) ≡ down (a -ℤ b) + (up a + down b)
sub_parts_of a b = omega (arith, add_parts a (neg_ℤ b), up_neg b, down_neg b)

pub mul_parts : (a b : ℤ) → up (a *ℤ b) + (up a * down b + down a * up b) ≡ down (a *ℤ b) + (up a * up b + down a * down b)
unfolding up down
mul_parts (pos a) (pos b) = omega arith
mul_parts (pos a) (negsuc b) = omega (arith, up_neg (pos (a * suc b)), down_neg (pos (a * suc b)), up_pos (a * suc b), down_pos (a * suc b))
mul_parts (negsuc a) (pos b) = omega (arith, up_neg (pos (suc a * b)), down_neg (pos (suc a * b)), up_pos (suc a * b), down_pos (suc a * b))
mul_parts (negsuc a) (negsuc b) = omega arith

-- ---- the way back

pub same_parts : (x y : ℤ) → up x + down y ≡ up y + down x → x ≡ y
unfolding up down
same_parts (pos a) (pos b) h = ap pos (omega arith)
same_parts (pos a) (negsuc b) h = absurd (omega arith)
same_parts (negsuc a) (pos b) h = absurd (omega arith)
same_parts (negsuc a) (negsuc b) h = ap negsuc (omega arith)

-- ---- the order

test_le : (x y : ℤ) → T (le_z x y) → up x + down y ≤ up y + down x
unfolding up down
test_le (pos a) (pos b) t = omega (arith, leb→le a b t)
test_le (pos a) (negsuc b) t = absurd t
test_le (negsuc a) (pos b) t = omega arith
test_le (negsuc a) (negsuc b) t = omega (arith, leb→le b a t)

pub le_parts : (x y : ℤ) → x ≤ℤ y → up x + down y ≤ up y + down x
le_parts x y h = test_le x y h.le
