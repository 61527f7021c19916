-- The worked readings of the specification (docs/LABORATORY.md): a table of what the definitions give and what it says. Floats are given by their bits.
use mathlib.Core.Path.{◌≡◌, refl}
use mathlib.Core.List.{List, [], ◌∷◌, map}
use Prim.Native.Nat.{ℕ}
use lib.IntN.{ℤ, pos, neg_ℤ}
use lib.ListN.{get_or}
use lib.Ieee.{Float, binary64, round, to_bits}
use Rattle.readings.specs.Readings.{Lists, value_of, pairs, readings_of, amplitudes, squares, quotient, power_of, readable}
use Rattle.readings.specs.Answers.{ReadAnswer, answer_of, number_of, floor_of, value_in}

pub record Case : Type 0 where
  pub gives : List ℕ
  pub says : List ℕ

abbrev bits : Float → ℕ
bits x = to_bits binary64 x

-- a sample: Y, ξ, Z and θ
pub record Sample : Type 0 where
  pub Y : ℤ
  pub ξ : ℕ
  pub Z : ℤ
  pub θ : ℕ

abbrev lists : List Sample → Lists
lists s = record { y = map (λ (x : Sample). x.Y) s; xi = map (λ (x : Sample). x.ξ) s; z = map (λ (x : Sample). x.Z) s; theta = map (λ (x : Sample). x.θ) s }

-- number, flag and power of an answer
abbrev told : ReadAnswer → List ℕ
told a = number_of a ∷ floor_of a ∷ bits (value_in a) ∷ []

-- the answer where so many readings are lent
abbrev answered : List Sample → ℕ → List ℕ
answered s n = told (answer_of (lists s) n)

abbrev first : Sample
first = record { Y = pos 0; ξ = 3; Z = neg_ℤ (pos 201326592); θ = 4 }

abbrev second : Sample
second = record { Y = pos 300937; ξ = 4; Z = pos 66807927; θ = 4 }

abbrev third : Sample
third = record { Y = neg_ℤ (pos 18193141); ξ = 3; Z = neg_ℤ (pos 116024587); θ = 3 }

abbrev third_with : ℤ → ℕ → Sample
third_with Z θ = record { Y = neg_ℤ (pos 18193141); ξ = 3; Z = Z; θ = θ }

abbrev errorless : Sample → Sample
errorless x = record { Y = x.Y; ξ = x.ξ; Z = pos 0; θ = x.θ }

-- the reading of a sample
abbrev reading : ℕ → List ℕ
reading i = map bits (get_or (readings_of (lists (first ∷ second ∷ third ∷ []))) i [])

pub cases : List Case
unfolding round to_bits value_of pairs amplitudes squares quotient power_of readable answer_of
cases =
    -- the readings, y and the error of each sample
    record { gives = reading 0; says = 0 ∷ 0xC008000000000000 ∷ [] }
    ∷ record { gives = reading 1; says = 0x3F725E2400000000 ∷ 0x3FEFDB43B8000000 ∷ [] }
    ∷ record { gives = reading 2; says = 0xBFC159AF50000000 ∷ 0xBFEBA9942C000000 ∷ [] }
    -- a, and the sum of its squares
    ∷ record { gives = amplitudes (lists (first ∷ second ∷ third ∷ [])).z (4 ∷ 4 ∷ 3 ∷ []); says = 768 ∷ 254 ∷ 221 ∷ [] }
    ∷ record { gives = squares (768 ∷ 254 ∷ 221 ∷ []) ∷ []; says = 703181 ∷ [] }
    -- the power
    ∷ record { gives = answered (first ∷ second ∷ third ∷ []) 3; says = 0 ∷ 0 ∷ 0x400C9CCD55555555 ∷ [] }
    -- a is 65535 of itself, or cut to it
    ∷ record { gives = answered (first ∷ second ∷ third_with (neg_ℤ (pos 65535)) 22 ∷ []) 3; says = 0 ∷ 0 ∷ 0x40D555FFAB155555 ∷ [] }
    ∷ record { gives = answered (first ∷ second ∷ third_with (neg_ℤ (pos 65536)) 22 ∷ []) 3; says = 0 ∷ 1 ∷ 0x40D555FFAB155555 ∷ [] }
    ∷ record { gives = answered (first ∷ second ∷ third_with (neg_ℤ (pos 1073741823)) 24 ∷ []) 3; says = 0 ∷ 1 ∷ 0x40D555FFAB155555 ∷ [] }
    -- no error
    ∷ record { gives = answered (map errorless (first ∷ second ∷ third ∷ [])) 3; says = 0 ∷ 0 ∷ 0 ∷ [] }
    -- turned down
    ∷ record { gives = answered (record { Y = pos 0; ξ = 0; Z = first.Z; θ = 4 } ∷ second ∷ third ∷ []) 3; says = 11 ∷ 0 ∷ 0 ∷ [] }
    ∷ record { gives = answered (first ∷ second ∷ third_with third.Z 25 ∷ []) 3; says = 11 ∷ 0 ∷ 0 ∷ [] }
    ∷ record { gives = answered (first ∷ record { Y = neg_ℤ (pos 536870912); ξ = 4; Z = second.Z; θ = 4 } ∷ third ∷ []) 3; says = 11 ∷ 0 ∷ 0 ∷ [] }
    ∷ record { gives = answered (first ∷ record { Y = second.Y; ξ = 4; Z = pos 1073741824; θ = 4 } ∷ third ∷ []) 3; says = 11 ∷ 0 ∷ 0 ∷ [] }
    ∷ record { gives = answered (first ∷ second ∷ third ∷ []) 2; says = 11 ∷ 0 ∷ 0 ∷ [] }
    ∷ record { gives = answered [] 0; says = 11 ∷ 0 ∷ 0 ∷ [] }
    ∷ []

pub worked : map (λ (c : Case). c.gives) cases ≡ map (λ (c : Case). c.says) cases
unfolding cases
worked = refl
