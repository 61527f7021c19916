-- What holds of all lists that can be read: the readings are exact, one division rounds, and the power is a mean exactly where no a was cut.
use Rattle.std.specs.Prelude.{◌≡◌, false, List, [], ◌∷◌, ℕ, ◌+◌, ◌*◌, ◌^◌, ◌≤◌, ◌<◌, ℤ, pos, nat_abs, length, get_or, Float}
use Rattle.std.specs.Float.{fin, binary64}
use Rattle.std.specs.Float.Ieee.{of_int, div}
use Rattle.std.specs.Float.Ieee.Exact.{HasValue}
use Rattle.laws.specs.Sums.{Each}
use Rattle.floats.specs.Floats.{negative, AtMost, Nearest}
use Rattle.steps.specs.Limits.{output_unit}
use Rattle.readings.specs.Limits.{amplitude_limit, amplitude_shift}
use Rattle.readings.specs.Readings.{Lists, value_of, pair_of, reading_of, readings_of, amplitudes, counted, squares, quotient, power_of}
use Rattle.readings.specs.declared.Power.TheVariants.{Mean, Floor}

-- x is m·2^(e − output_unit): it has the sign of m, + where m is 0, and 2^output_unit·|x| is |m|·2^e
abbrev pub Exactly : Float → ℤ → ℕ → Type 0
Exactly x m e = HasValue x (negative m) (nat_abs m * 2 ^ e) (2 ^ output_unit)

-- the exact sum of (256·error)², times 2^(2·amplitude_shift)
unfoldable pub exact_squares : List ℤ → List ℕ → ℕ
exact_squares [] θs = 0
exact_squares (Z ∷ Zs) [] = 0
exact_squares (Z ∷ Zs) (θ ∷ θs) = nat_abs Z * 2 ^ θ * (nat_abs Z * 2 ^ θ) + exact_squares Zs θs

-- the sum of (a + 1)²
unfoldable pub squares_above : List ℕ → ℕ
squares_above [] = 0
squares_above (a ∷ as') = (counted a + 1) * (counted a + 1) + squares_above as'

-- no a is cut; 65535 itself is no cut
abbrev pub Uncut : List ℕ → Type 0
Uncut a = Each (λ (x : ℕ). x ≤ amplitude_limit) a

-- the reading of a sample
pub record ReadExactly (l : Lists) (i : ℕ) : Type 0 where
  pub y_exact : Exactly (value_of (get_or l.y i (pos 0)) (get_or l.xi i 0)) (get_or l.y i (pos 0)) (get_or l.xi i 0)
  pub error_exact : Exactly (value_of (get_or l.z i (pos 0)) (get_or l.theta i 0)) (get_or l.z i (pos 0)) (get_or l.theta i 0)
  pub placed : get_or (readings_of l) i [] ≡ pair_of (reading_of (get_or l.y i (pos 0)) (get_or l.xi i 0) (get_or l.z i (pos 0)) (get_or l.theta i 0))

-- the sum of a² over 65536·n: both numbers are exact before the division, and nothing that an f64 holds is nearer to their quotient
pub record DividedOnce (a : List ℕ) (n : ℕ) : Type 0 where
  pub sum_exact : HasValue (of_int binary64 (pos (squares a))) false (squares a) 1
  pub divisor_exact : HasValue (of_int binary64 (pos (65536 * n))) false (65536 * n) 1
  pub divided : quotient (squares a) n ≡ div binary64 (of_int binary64 (pos (squares a))) (of_int binary64 (pos (65536 * n)))
  pub nearest : Nearest binary64 (quotient (squares a) n) (squares a) (65536 * n)

module _ (l : Lists) (n : ℕ) where
  abbrev a : List ℕ
  a = amplitudes l.z l.theta

  pub record ReadingsHold : Type 0 where
    pub long : length (readings_of l) ≡ n
    pub readings : (i : ℕ) → i < n → ReadExactly l i
    pub power : DividedOnce a n
    -- a mean exactly if no a was cut
    pub mean : Uncut a → power_of a ≡ Mean (quotient (squares a) n)
    pub floor : (Uncut a → ⊥) → power_of a ≡ Floor (quotient (squares a) n)
    -- the exact sum of (256·error)² is at least the sum of a², and less than the sum of (a + 1)² where no a was cut
    pub at_least : squares a * 2 ^ (2 * amplitude_shift) ≤ exact_squares l.z l.theta
    pub below : Uncut a → exact_squares l.z l.theta < squares_above a * 2 ^ (2 * amplitude_shift)
    -- a floor, rounded as it is, is at most the exact mean of error²
    pub floor_below : (Uncut a → ⊥) → AtMost (quotient (squares a) n) (exact_squares l.z l.theta) (65536 * n * 2 ^ (2 * amplitude_shift))

-- a zero reading is +0, and so is a zero power
abbrev pub ZeroIsPlus : Type 0
ZeroIsPlus = ((e : ℕ) → value_of (pos 0) e ≡ fin false 0 (pos 0)) × ((n : ℕ) → 1 ≤ n → quotient 0 n ≡ fin false 0 (pos 0))
