-- What is said of floats: the sign of a whole number, that a float is at most a fraction, and that it is the nearest to one.
use Rattle.std.specs.Prelude.{Bool, true, false, ℕ, ◌+◌, ◌-◌, ◌*◌, ◌≤◌, ℤ, pos, negsuc, T, Float}
use Rattle.std.specs.Float.{nan, inf, fin, Format}
use Rattle.std.specs.Float.Ieee.{up, down, fits}
use Rattle.std.specs.Float.Ieee.Positive.{den}
use Rattle.std.specs.Float.Ieee.Scale.{finite}

-- the sign of a float with the value of z: 0 is +0
abbrev pub negative : ℤ → Bool
negative (pos n) = false
negative (negsuc n) = true

-- a finite x is at most a / c in size
abbrev pub AtMost : Float → ℕ → ℕ → Type 0
AtMost nan a c = ⊥
AtMost (inf s) a c = ⊥
AtMost (fin s m e) a c = m * up e * c ≤ a * down e

-- |a − b|
abbrev pub apart : ℕ → ℕ → ℕ
apart a b = a - b + (b - a)

-- how far a finite x is from a / c, in units of 1 / (c · den x)
abbrev pub off : Float → ℕ → ℕ → ℕ
off nan a c = 0
off (inf s) a c = 0
off (fin true m e) a c = m * up e * c + a * down e
off (fin false m e) a c = apart (m * up e * c) (a * down e)

-- r is a finite value of the format, and no other one is nearer to a / c
pub record Nearest (f : Format) (r : Float) (a c : ℕ) : Type 0 where
  pub own : T (fits f r)
  pub number : T (finite r)
  pub least : (x : Float) → T (fits f x) → T (finite x) → off r a c * den x ≤ off x a c * den r
