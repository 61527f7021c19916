-- The units and the limits of the equaliser, and what follows from them.
use Rattle.std.specs.Prelude.{ℕ, ◌+◌, ◌*◌, ◌-◌, ◌^◌}

-- ---- units

-- a weight W means W·2^(ψ − weight_unit)
abbrev pub weight_unit : ℕ
weight_unit = 15

-- a stored sample A means A·2^(γ − data_unit), a held symbol its mantissa times 2^(ν − data_unit); a received m has
-- |m| ≤ 2^data_unit
abbrev pub data_unit : ℕ
data_unit = 15

-- Y means Y·2^(ξ − output_unit), Z means Z·2^(θ − output_unit); F and H are in the same unit, as weight_unit + data_unit is
-- output_unit
abbrev pub output_unit : ℕ
output_unit = 30

-- μ is M·2^(−step_unit)
abbrev pub step_unit : ℕ
step_unit = 30

-- ---- limits

-- taps of one filter
abbrev pub tap_limit : ℕ
tap_limit = 16

-- samples of a block
abbrev pub block_limit : ℕ
block_limit = 128

-- r
abbrev pub symbol_limit : ℕ
symbol_limit = 3

-- a gain, and L
abbrev pub gain_limit : ℕ
gain_limit = 15

-- ψ
abbrev pub exponent_limit : ℕ
exponent_limit = 15

-- weights are halved from here on
abbrev pub halving_limit : ℕ
halving_limit = 2 ^ (weight_unit - 1)

-- weights that are all below this are doubled, where ψ can fall
abbrev pub doubling_limit : ℕ
doubling_limit = 2 ^ (weight_unit - 3)

-- ---- what follows

-- X means X·2^(r − received_unit), as X = m·2^(gain_limit − g); Γ is γ + received_unit
abbrev pub received_unit : ℕ
received_unit = data_unit + gain_limit

-- a mantissa a of the exponent x means a·2^(x − mantissa_unit): x is Γ for a stored sample, ν + received_unit for a held
-- symbol, and mantissa_unit for the symbol itself
abbrev pub mantissa_unit : ℕ
mantissa_unit = data_unit + received_unit

-- J·A·2^S is cut by so many bits to a weight's unit
abbrev pub update_shift : ℕ
update_shift = output_unit + data_unit - weight_unit

-- y* is compared times 2^exact_unit
abbrev pub exact_unit : ℕ
exact_unit = weight_unit + mantissa_unit

-- and Y, which means Y·2^(ξ − output_unit), is then raised by ξ + output_raise
abbrev pub output_raise : ℕ
output_raise = exact_unit - output_unit

-- the exact new weight is compared times 2^exact_weight_unit: one part each for μ, for a mantissa and for y*
abbrev pub exact_weight_unit : ℕ
exact_weight_unit = step_unit + mantissa_unit + exact_unit

-- and W, which means W·2^(ψ − weight_unit), is then raised by weight_raise + ψ
abbrev pub weight_raise : ℕ
weight_raise = exact_weight_unit - weight_unit

-- S and S': the scale count of the most taps
abbrev pub scale_limit : ℕ
scale_limit = 5

-- γ and ν: a scale count and the bits of a symbol
abbrev pub data_exponent_limit : ℕ
data_exponent_limit = scale_limit + (symbol_limit + 1)

-- ξ and θ
abbrev pub output_exponent_limit : ℕ
output_exponent_limit = exponent_limit + data_exponent_limit

-- B and L together: the bits of a received m and the greatest gain
abbrev pub length_limit : ℕ
length_limit = data_unit + 1 + gain_limit

-- slots of the weights, and of the data, in the record
abbrev pub slots : ℕ
slots = 2 * tap_limit
