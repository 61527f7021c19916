-- The bit length of a whole number: the count of binary digits of its magnitude up to the highest one; 0 has none.
use Rattle.std.specs.Prelude.{ℕ, zero, suc, ◌/◌}

-- the digits of n, of which no more than d are looked at
unfoldable pub binary_digits : ℕ → ℕ → ℕ
binary_digits zero n = 0
binary_digits (suc d) zero = 0
binary_digits (suc d) (suc n) = suc (binary_digits d (suc n / 2))

-- all its digits: a number has no more of them than its value
unfoldable pub bit_length : ℕ → ℕ
unfolding binary_digits
bit_length n = binary_digits n n
