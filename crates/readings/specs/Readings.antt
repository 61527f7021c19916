-- The readings of a block: y and the error of each sample as an f64, and the error power.
use Rattle.std.specs.Prelude.{Bool, false, cond, ◌&&◌, List, [], ◌∷◌, ℕ, ◌+◌, ◌*◌, ◌-◌, ◌/◌, ◌^◌, min, leb, eqb, ℤ, nat_abs, length, Float}
use Rattle.std.specs.Float.{binary64}
use Rattle.std.specs.Float.Ieee.{round}
use Rattle.laws.specs.Lists.{all}
use Rattle.floats.specs.Floats.{negative}
use Rattle.steps.specs.Limits.{output_unit, block_limit, output_exponent_limit}
use Rattle.steps.specs.Fir.{all_below}
use Rattle.readings.specs.Limits.{output_limit, error_limit, amplitude_limit, amplitude_shift}
use Rattle.readings.specs.declared.Reading.{Reading}
use Rattle.readings.specs.declared.Power.{Power}
use Rattle.readings.specs.declared.Power.TheVariants.{Mean, Floor}

-- what a block handed out: Y, ξ, Z and θ of each sample
pub record Lists : Type 0 where
  pub y : List ℤ
  pub xi : List ℕ
  pub z : List ℤ
  pub theta : List ℕ

abbrev pub lists_of : List ℤ → List ℕ → List ℤ → List ℕ → Lists
lists_of y xi z theta = record { y = y; xi = xi; z = z; theta = theta }

-- ---- a reading

-- a mantissa and its exponent: m·2^(e − output_unit), as m over 2^(output_unit − e)
unfoldable pub value_of : ℤ → ℕ → Float
value_of m e = round binary64 (negative m) (nat_abs m) (2 ^ (output_unit - e))

abbrev pub reading_of : ℤ → ℕ → ℤ → ℕ → Reading
reading_of Y ξ Z θ = record { y = value_of Y ξ; error = value_of Z θ }

-- a reading as it is lent: y, then the error
abbrev pub pair_of : Reading → List Float
pair_of r = r.y ∷ r.error ∷ []

unfoldable pub pairs : List ℤ → List ℕ → List ℤ → List ℕ → List (List Float)
pairs [] ξs Zs θs = []
pairs (Y ∷ Ys) [] Zs θs = []
pairs (Y ∷ Ys) (ξ ∷ ξs) [] θs = []
pairs (Y ∷ Ys) (ξ ∷ ξs) (Z ∷ Zs) [] = []
pairs (Y ∷ Ys) (ξ ∷ ξs) (Z ∷ Zs) (θ ∷ θs) = pair_of (reading_of Y ξ Z θ) ∷ pairs Ys ξs Zs θs

abbrev pub readings_of : Lists → List (List Float)
readings_of l = pairs l.y l.xi l.z l.theta

-- ---- the error power

-- a = floor(256·|error|), where 256·|error| is |Z|·2^(θ − amplitude_shift)
abbrev pub amplitude : ℤ → ℕ → ℕ
amplitude Z θ = nat_abs Z * 2 ^ θ / 2 ^ amplitude_shift

unfoldable pub amplitudes : List ℤ → List ℕ → List ℕ
amplitudes [] θs = []
amplitudes (Z ∷ Zs) [] = []
amplitudes (Z ∷ Zs) (θ ∷ θs) = amplitude Z θ ∷ amplitudes Zs θs

-- a as it is counted: 65535 if that is smaller
abbrev pub counted : ℕ → ℕ
counted a = min a amplitude_limit

-- a is not cut: 65535 itself is not
abbrev pub is_uncut : ℕ → Bool
is_uncut a = leb a amplitude_limit

-- the sum of a²
unfoldable pub squares : List ℕ → ℕ
squares [] = 0
squares (a ∷ as') = counted a * counted a + squares as'

-- a sum over 65536·N
unfoldable pub quotient : ℕ → ℕ → Float
quotient sum N = round binary64 false sum (65536 * N)

-- a mean where no a was cut, else only a floor
unfoldable pub power_of : List ℕ → Power
power_of a = cond (all is_uncut a) (Mean (quotient (squares a) (length a))) (Floor (quotient (squares a) (length a)))

-- ---- what can be read

abbrev pub exponent_fits : ℕ → Bool
exponent_fits e = leb 1 e && leb e output_exponent_limit

-- every list is of one length n, from 1 to 128
abbrev pub lengths_readable : Lists → ℕ → Bool
lengths_readable l n = leb 1 n && leb n block_limit && eqb (length l.y) n && eqb (length l.xi) n && eqb (length l.z) n && eqb (length l.theta) n

abbrev pub values_readable : Lists → Bool
values_readable l = all_below error_limit l.z && all exponent_fits l.xi && all exponent_fits l.theta && all_below output_limit l.y

unfoldable pub readable : Lists → ℕ → Bool
readable l n = lengths_readable l n && values_readable l
