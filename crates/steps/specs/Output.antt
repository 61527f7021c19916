-- The output (step 3), from F, H, Γ = γ + received_unit, ν and ψ.
use Rattle.std.specs.Prelude.{cond, ℕ, ◌+◌, ◌-◌, ltb, ℤ, ◌+ℤ◌}
use Rattle.numbers.specs.Cut.{cut}
use Rattle.steps.specs.Limits.{received_unit}

-- Y
unfoldable pub output : ℤ → ℤ → ℕ → ℕ → ℤ
output F H Γ ν = cond (ltb (ν + received_unit) Γ) (F +ℤ cut H (Γ - (ν + received_unit))) (H +ℤ cut F (ν + received_unit - Γ))

-- ξ
unfoldable pub output_exponent : ℕ → ℕ → ℕ → ℕ
output_exponent ψ Γ ν = cond (ltb (ν + received_unit) Γ) (ψ + Γ - received_unit) (ψ + ν)
