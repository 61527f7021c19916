-- What the functions ask of each other.
use Rattle.std.specs.Prelude.{◌≡◌, true, cond, List, [], ◌∷◌, ℕ, zero, suc, ◌+◌, ◌*◌, ◌-◌, ◌^◌, ◌≤◌, ℤ, length, Float}
use Rattle.std.specs.Float.{binary64}
use Rattle.std.specs.Float.Ieee.{of_bits}
use Rattle.laws.specs.Lists.{all}
use Rattle.steps.specs.Limits.{output_unit, block_limit, output_exponent_limit}
use Rattle.readings.specs.Limits.{amplitude_limit}
use Rattle.readings.specs.Readings.{Lists, amplitudes, is_uncut, squares, quotient, exponent_fits}
use Rattle.readings.specs.declared.errors.Sum.{Sum}
use Rattle.readings.specs.declared.Power.{Power}
use Rattle.readings.specs.declared.Power.TheVariants.{Mean, Floor}

abbrev pub Exponent : ℕ → Type 0
Exponent e = (1 ≤ e) × (e ≤ output_exponent_limit)

-- floats of n exponent's fields from k + 1 on, without a digit but the leading one
abbrev pub powers : ℕ → ℕ → List Float
powers k zero = []
powers k (suc n) = of_bits binary64 (suc k * 2 ^ 52) ∷ powers (suc k) n

-- 2^(e − output_unit) for each e up to the greatest exponent: its field is 1023 − output_unit + e
abbrev pub power_table : List Float
power_table = powers (1022 - output_unit) (output_exponent_limit + 1)

-- what a sum of a² can come to before the last one
abbrev pub sum_limit : ℕ
sum_limit = block_limit * (amplitude_limit * amplitude_limit)

abbrev pub sum_of : List ℤ → List ℕ → Sum
sum_of z theta = record { sum = squares (amplitudes z theta); uncut = all is_uncut (amplitudes z theta) }

abbrev pub power_from : Sum → ℕ → Power
power_from s n = cond s.uncut (Mean (quotient s.sum n)) (Floor (quotient s.sum n))

-- lists of n places each
pub record Long (l : Lists) (n : ℕ) : Type 0 where
  pub some : 1 ≤ n
  pub few : n ≤ block_limit
  pub y_long : length l.y ≡ n
  pub xi_long : length l.xi ≡ n
  pub z_long : length l.z ≡ n
  pub theta_long : length l.theta ≡ n

-- lists that have a reading for each of n places
pub record Fillable (l : Lists) (n : ℕ) : Type 0 where
  pub long : Long l n
  pub xi_fit : all exponent_fits l.xi ≡ true
  pub theta_fit : all exponent_fits l.theta ≡ true
