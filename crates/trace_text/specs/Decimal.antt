-- Numbers in decimal, as bytes.
use Rattle.std.specs.Prelude.{cond, List, [], ◌∷◌, ◌++◌, ℕ, zero, suc, ◌+◌, ◌/◌, ◌%◌, ltb, ℤ, pos, negsuc}

-- at most d digits more in front of the last
unfoldable pub decimal_digits : ℕ → ℕ → List ℕ
decimal_digits zero n = (48 + n % 10) ∷ []
decimal_digits (suc d) n = cond (ltb n 10) ((48 + n) ∷ []) (decimal_digits d (n / 10) ++ ((48 + n % 10) ∷ []))

-- a number has no more digits than its value and one
unfoldable pub decimal : ℕ → List ℕ
decimal n = decimal_digits n n

-- with a minus sign before a negative number
unfoldable pub signed_decimal : ℤ → List ℕ
signed_decimal (pos n) = decimal n
signed_decimal (negsuc n) = 45 ∷ decimal (suc n)
