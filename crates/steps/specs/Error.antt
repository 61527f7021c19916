-- The error (step 5), from v, Y, ξ and κ, the specification's k: S' plus the bit length of v.
use Rattle.std.specs.Prelude.{cond, ℕ, ◌-◌, ltb, ℤ, ◌-ℤ◌}
use Rattle.numbers.specs.Cut.{cut, raise}
use Rattle.steps.specs.Limits.{output_unit}

-- Z
unfoldable pub error : ℤ → ℤ → ℕ → ℕ → ℤ
error v Y ξ κ = cond (ltb ξ κ) (raise v (output_unit - κ) -ℤ cut Y (κ - ξ)) (raise v (output_unit - ξ) -ℤ Y)

-- θ
unfoldable pub error_exponent : ℕ → ℕ → ℕ
error_exponent ξ κ = cond (ltb ξ κ) κ ξ
