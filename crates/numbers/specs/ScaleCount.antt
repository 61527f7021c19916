-- The scale count S(k): the least whole number S with 2^S ≥ 2k.
use Rattle.std.specs.Prelude.{Bool, cond, ℕ, zero, suc, ◌*◌, ◌^◌, leb}

-- the first s, from the second number on, that passes the test; the first number bounds how many are tried
unfoldable pub first : (ℕ → Bool) → ℕ → ℕ → ℕ
first test zero s = s
first test (suc d) s = cond (test s) s (first test d (suc s))

unfoldable pub scale_count : ℕ → ℕ
unfolding first
scale_count k = first (λ s. leb (2 * k) (2 ^ s)) (2 * k) 0
