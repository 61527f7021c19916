-- The sizes and the step admission, as tests.
use Rattle.std.specs.Prelude.{Bool, ◌&&◌, cond, ℕ, ◌+◌, ◌*◌, ◌^◌, leb}
use Rattle.steps.specs.Limits.{step_unit, tap_limit, block_limit, symbol_limit, gain_limit}
use Rattle.steps.specs.Settings.{Settings, step_bound}

-- 1: every size is within its limits
abbrev pub sizes_fit : Settings → Bool
sizes_fit k =
    leb 1 k.p && leb k.p tap_limit && leb 1 k.q && leb k.q tap_limit && leb 1 k.N && leb k.p (k.N + 1) && leb k.N block_limit
    && leb k.r symbol_limit && leb k.L gain_limit

-- M-as-D ≤ 2^step_unit, both sides times 2^L
abbrev pub admits : Settings → Bool
admits k = leb (k.M * step_bound k) (2 ^ (step_unit + k.L))

-- what set-up answers: 0, or the number of the refusal
unfoldable pub settings_number : Settings → ℕ
settings_number k = cond (sizes_fit k) (cond (admits k) 0 2) 1
