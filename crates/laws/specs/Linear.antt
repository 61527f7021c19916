-- A statement on ℤ as one on ℕ, for omega. An expression E x of x has two parts in ℕ that compute by its form, and their difference is x.
use Rattle.std.specs.Prelude.{◌≡◌, Bool, true, false, not, ℕ, pred, ◌+◌, ◌*◌, ◌≤◌, ◌<◌, ℤ, pos, neg_ℤ, nat_abs, ◌+ℤ◌, ◌-ℤ◌, ◌*ℤ◌, ◌≤ℤ◌}
use Rattle.std.proofs.Common.{ap, arith}
use Rattle.laws.specs.Parts.{up, down, up_neg, down_neg, up_pos, down_pos, abs_parts, add_parts, sub_parts_of, mul_parts, le_parts}
use Rattle.laws.specs.Integers.{abs_bounds}

pub data E : ℤ → Type 0 where
  sum : {x y : ℤ} → E x → E y → E (x +ℤ y)
  diff : {x y : ℤ} → E x → E y → E (x -ℤ y)
  prod : {x y : ℤ} → E x → E y → E (x *ℤ y)
  neg : {x : ℤ} → E x → E (neg_ℤ x)
  nat : (n : ℕ) → E (pos n)
  atom : (z : ℤ) → E z

-- the part that adds (true) and the part that takes away (false)
abbrev pub part : Bool → {x : ℤ} → E x → ℕ
part s (sum a b) = part s a + part s b
part s (diff a b) = part s a + part (not s) b
part s (prod a b) = part true a * part s b + part false a * part (not s) b
part s (neg a) = part (not s) a
part true (nat n) = n
part false (nat n) = 0
part true (atom z) = up z
part false (atom z) = down z

pub parts : {x : ℤ} (e : E x) → up x + part false e ≡ down x + part true e
parts (sum {x = x} {y = y} a b) = omega (arith, parts a, parts b, add_parts x y)
parts (diff {x = x} {y = y} a b) = omega (arith, parts a, parts b, sub_parts_of x y)
parts (prod {x = x} {y = y} a b) = omega (
  arith,
  mul_parts x y,
  ap (λ (n : ℕ). n * up y) (parts a),
  ap (λ (n : ℕ). n * down y) (parts a),
  ap (λ (n : ℕ). part true a * n) (parts b),
  ap (λ (n : ℕ). part false a * n) (parts b),
)
parts (neg {x = x} a) = omega (arith, parts a, up_neg x, down_neg x)
parts (nat n) = omega (arith, up_pos n, down_pos n)
parts (atom z) = omega arith

-- ---- a statement on ℤ and the one on the parts, each way

pub of_le : {x y : ℤ} (a : E x) (b : E y) → x ≤ℤ y → part true a + part false b ≤ part true b + part false a
of_le {x} {y} a b h = omega (arith, parts a, parts b, le_parts x y h)

module _ (x : ℤ) {k : ℕ} (a : E x) where
  pub by_abs : (part true a ≤ part false a + k) × (part false a ≤ part true a + k) → nat_abs x ≤ k
  by_abs h = abs_bounds x k (omega (arith, parts a)) (omega (arith, parts a))

  pub by_abs_lt : (part true a < part false a + k) × (part false a < part true a + k) → nat_abs x < k
  by_abs_lt h = below (abs_bounds x (pred k) (omega (arith, parts a)) (omega (arith, parts a)))
    where
      below : nat_abs x ≤ pred k → nat_abs x < k
      below g = omega (arith, parts a)

  pub of_abs_lt : nat_abs x < k → (part true a < part false a + k) × (part false a < part true a + k)
  of_abs_lt h = omega (arith, parts a, abs_parts x)
