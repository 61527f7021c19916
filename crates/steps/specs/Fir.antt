-- One FIR filter of the equaliser at a sample: the feed forward filter or the feedback filter.
use Rattle.std.specs.Prelude.{Bool, List, [], ◌∷◌, map, ℕ, ◌+◌, ◌-◌, ◌<◌, max, ℤ, pos, nat_abs, ◌+ℤ◌, ◌*ℤ◌, ltb, length, take}
use Rattle.laws.specs.Lists.{all}
use Rattle.laws.specs.Sums.{dot}
use Rattle.numbers.specs.BitLength.{bit_length}
use Rattle.numbers.specs.Cut.{cut, raise}
use Rattle.steps.specs.Limits.{step_unit, received_unit, update_shift, halving_limit}

-- weights, data mantissas, the scale count S or S', and the exponent: a mantissa a means a·2^(exponent − mantissa_unit)
pub record Fir : Type 0 where
  pub weights : List ℤ
  pub mantissas : List ℤ
  pub scale : ℕ
  pub exponent : ℕ

-- step 2: F or H
abbrev pub sum : Fir → ℤ
sum f = dot f.weights f.mantissas

-- step 6: the shift by which M-as-Z is cut, from ψ and θ
abbrev pub factor_shift : ℕ → ℕ → Fir → ℕ
factor_shift ψ θ f = step_unit + received_unit + ψ + f.scale - (f.exponent + θ)

-- step 6: J
abbrev pub factor : ℕ → ℤ → ℕ → ℕ → Fir → ℤ
factor M Z ψ θ f = cut (pos M *ℤ Z) (factor_shift ψ θ f)

-- step 6: a weight and what it gains, where K is J·2^s
abbrev pub adapted : ℤ → ℤ → ℤ → ℤ
adapted K w a = w +ℤ cut (K *ℤ a) update_shift

unfoldable pub adapt : ℤ → List ℤ → List ℤ → List ℤ
adapt K [] a = []
adapt K (w ∷ ws) [] = w ∷ ws
adapt K (w ∷ ws) (a ∷ b) = adapted K w a ∷ adapt K ws b

-- step 6: the new weights of a filter
abbrev pub new_weights : ℤ → Fir → List ℤ
new_weights J f = adapt (raise J f.scale) f.weights f.mantissas

-- a weight as it is stored
abbrev pub Small : ℤ → Type 0
Small w = nat_abs w < halving_limit

-- a weight has not reached a limit
abbrev pub is_below : ℕ → ℤ → Bool
is_below limit w = ltb (nat_abs w) limit

-- none has
abbrev pub all_below : ℕ → List ℤ → Bool
all_below limit w = all (is_below limit) w

-- step 7: none has reached the halving limit
abbrev pub all_small : List ℤ → Bool
all_small w = all_below halving_limit w

-- step 7: half of each weight
abbrev pub halved : List ℤ → List ℤ
halved w = map (λ (x : ℤ). cut x 1) w

-- after step 7: twice each weight
abbrev pub doubled : List ℤ → List ℤ
doubled w = map (λ (x : ℤ). raise x 1) w

-- a new element in front, and the oldest falls off
abbrev pub push : ℤ → List ℤ → List ℤ
push x xs = take (length xs) (x ∷ xs)

abbrev pub magnitudes : List ℤ → List ℕ
magnitudes l = map nat_abs l

-- the largest number of a list, 0 of none
unfoldable pub largest : List ℕ → ℕ
largest [] = 0
largest (n ∷ ns) = max n (largest ns)

-- step 1: c, the largest bit length
unfoldable pub largest_bits : List ℤ → ℕ
largest_bits l = largest (map bit_length (magnitudes l))
