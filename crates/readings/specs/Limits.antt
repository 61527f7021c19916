-- The limits of what can be read; the exponents and the length are those of a block.
use Rattle.std.specs.Prelude.{ℕ, ◌-◌, ◌^◌}
use Rattle.steps.specs.Limits.{output_unit}

-- Y
abbrev pub output_limit : ℕ
output_limit = 2 ^ (output_unit - 1)

-- Z
abbrev pub error_limit : ℕ
error_limit = 2 ^ output_unit

-- a
abbrev pub amplitude_limit : ℕ
amplitude_limit = 65535

-- 256·|error| is |Z|·2^θ / 2^amplitude_shift
abbrev pub amplitude_shift : ℕ
amplitude_shift = output_unit - 8
