-- The settings, the step admission and the symbols.
use Rattle.std.specs.Prelude.{Bool, ◌&&◌, ◌||◌, ℕ, ◌+◌, ◌*◌, ◌-◌, ◌%◌, ◌^◌, leb, eqb, ℤ, nat_abs}
use Rattle.numbers.specs.ScaleCount.{scale_count}
use Rattle.steps.specs.declared.settings.Settings as Declared

-- p, q, N, r, L and M, as the struct of the code has them
abbrev pub Settings : Type 0
Settings = Declared.Settings

-- the settings of these numbers
abbrev pub given : ℕ → ℕ → ℕ → ℕ → ℕ → ℕ → Settings
given p q N r L M = record { p = p; q = q; N = N; r = r; L = L; M = M }

-- S and S'
abbrev pub scale_forward : Settings → ℕ
scale_forward k = scale_count k.p

abbrev pub scale_back : Settings → ℕ
scale_back k = scale_count k.q

-- D·2^L, which is whole
abbrev pub step_bound : Settings → ℕ
step_bound k =
    2 ^ (2 * k.r + 3 + k.L) + k.p * 2 ^ (2 * k.r + 2) + k.q * 2 ^ (2 * k.r + 2 + k.L)

-- ---- symbols

-- odd, and of magnitude at most 2^(r+1) − 1
abbrev pub is_symbol : ℕ → ℤ → Bool
is_symbol r v = eqb (nat_abs v % 2) 1 && leb (nat_abs v) (2 ^ (r + 1) - 1)

-- 0 or a symbol
abbrev pub is_entry : ℕ → ℤ → Bool
is_entry r v = eqb (nat_abs v) 0 || is_symbol r v
