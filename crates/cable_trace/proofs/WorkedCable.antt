-- The specification's worked cable, computed by the definitions, and a gain at each end.
use mathlib.Core.Path.{◌≡◌, refl}
use mathlib.Core.Bool.{true, false}
use mathlib.Core.List.{[], ◌∷◌, map}
use Prim.Native.Nat.{◌-◌, ◌^◌}
use lib.IntN.{pos, negsuc}
use Rattle.laws.specs.Sums.{dot}
use Rattle.laws.specs.Values.{values, joined}
use Rattle.words.specs.Words.{bytes}
use Rattle.numbers.specs.Cut.{cut}
use Rattle.steps.specs.Settings.{given}
use Rattle.trace_layout.specs.Trace.{trace_of}
use Rattle.state.specs.Sizes.{settings_number}
use Rattle.cable_trace.specs.Cable.{Cable, s, greatest, gain, has_gain, sample, cable_trace, length_cause, list_cause, cause, cable_number}

steps : Unit {0}
unfolding dot cut values joined bytes trace_of settings_number s greatest gain sample cable_trace length_cause list_cause cause cable_number
steps = tt

-- p = q = 1, N = 2, r = 1, L = 0, M = 2^24; the response 16390, −32768, 16384, −5; six symbols, three of them training entries
example : Cable
example = record {
  settings = given 1 1 2 1 0 16777216;
  response = pos 16390 ∷ negsuc 32767 ∷ pos 16384 ∷ negsuc 4 ∷ [];
  symbols = pos 1 ∷ pos 1 ∷ pos 1 ∷ negsuc 0 ∷ negsuc 2 ∷ negsuc 0 ∷ [];
  training = 3;
}

sums : values (s example) 6 ≡ pos 16390 ∷ negsuc 16377 ∷ pos 6 ∷ negsuc 32778 ∷ negsuc 22 ∷ pos 65525 ∷ []
unfolding steps example
sums = refl

gains : map (gain 1) (values (s example) 6) ≡ 1 ∷ 2 ∷ 13 ∷ 0 ∷ 11 ∷ 0 ∷ []
unfolding steps example
gains = refl

samples : map (sample 1) (values (s example) 6) ≡ pos 16390 ∷ negsuc 32755 ∷ pos 24576 ∷ negsuc 16388 ∷ negsuc 23551 ∷ pos 32762 ∷ []
unfolding steps example
samples = refl

trace : cable_trace example ≡
    0x01 ∷ 0x01 ∷ 0x02 ∷ 0x01 ∷ 0x00 ∷ 0x00 ∷ 0x03 ∷ 0x00 ∷ 0x00 ∷ 0x00 ∷ 0x00 ∷ 0x01
    ∷ 0x06 ∷ 0x40 ∷ 0x01 ∷ 0x0C ∷ 0x80 ∷ 0x02 ∷ 0x00 ∷ 0x60 ∷ 0x0D ∷ 0xFB ∷ 0xBF ∷ 0x00 ∷ 0x00 ∷ 0xA4 ∷ 0x0B ∷ 0xFA ∷ 0x7F ∷ 0x00
    ∷ 0x01 ∷ 0x01 ∷ 0x01 ∷ 0x00 ∷ 0x00 ∷ 0x00 ∷ []
unfolding steps example
trace = refl

accepted : cable_number example 36 ≡ 0
unfolding steps example
accepted = refl

short : cable_number example 35 ≡ 10
unfolding steps example
short = refl

-- 0 takes the gain 15; 2^(15+r) − 1 takes 0, and 2^(15+r) none
ends : (gain 3 (pos 0) ≡ 15) × (gain 3 (pos (2 ^ 18 - 1)) ≡ 0) × (has_gain 3 (pos (2 ^ 18 - 1)) ≡ true) × (has_gain 3 (pos (2 ^ 18)) ≡ false)
unfolding steps
ends = (refl, refl, refl, refl)
