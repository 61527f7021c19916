-- The starred cases beside the limits: a table of what the definitions give and what the specification (docs/EQUALISER.md) says.
use mathlib.Core.Path.{◌≡◌, refl}
use mathlib.Core.List.{List, [], ◌∷◌, ◌++◌, map}
use Prim.Native.Nat.{ℕ, zero, suc, ◌/◌, ◌%◌, ◌^◌}
use lib.ListN.{replicate}
use lib.IntN.{ℤ, pos, negsuc, ◌-ℤ◌}
use Rattle.laws.specs.Sums.{dot}
use Rattle.numbers.specs.ScaleCount.{scale_count}
use Rattle.numbers.specs.BitLength.{bit_length}
use Rattle.numbers.specs.Cut.{cut}
use Rattle.steps.specs.Limits.{received_unit}
use Rattle.steps.specs.Settings.{Settings, given, step_bound}
use Rattle.steps.specs.Fir.{largest, adapt, largest_bits}
use Rattle.steps.specs.Output.{output, output_exponent}
use Rattle.steps.specs.Decision.{decide}
use Rattle.steps.specs.Error.{error, error_exponent}
use Rattle.filter.specs.Sample.{outcome_of, normalised, normalised_exponent, ν, F, H, Y, ξ, decision, v, κ, Z, θ, J, new_forward, new_back, outcome, next}
use Rattle.block.specs.Block.{Block, Memory, received_all, newb, new_b, Γ, stored, old, start, after, at, next_memory}
use Rattle.state.specs.Sizes.{settings_number}
use Rattle.state.specs.State.{memory, fresh}

pub record Case : Type 0 where
  pub gives : List ℤ
  pub says : List ℤ

-- ---- blocks of one sample

smallest : Settings
smallest = given 1 1 1 0 0 67108864

one : ℤ → ℤ → Block
one m entry = record { samples = m ∷ []; gains = 0 ∷ []; entries = entry ∷ [] }

begun : Memory
begun = memory (fresh smallest)

-- weights of 0 at ψ = 3, and a block of silence
still : Settings
still = given 1 1 5 0 0 0

low : Memory
low = record { forward = pos 0 ∷ []; back = pos 0 ∷ []; samples = []; symbols = pos 0 ∷ []; ψ = 3; b = 0; B = 0 }

silence : Block
silence = record { samples = replicate 5 (pos 0); gains = replicate 5 0; entries = replicate 5 (pos 0) }

-- all definitions, opened
steps : Unit {0}
unfolding scale_count bit_length cut dot largest adapt largest_bits output output_exponent decide error error_exponent ν F H Y ξ decision v κ Z θ J outcome_of new_forward new_back outcome next received_all newb new_b Γ stored old start after at next_memory settings_number fresh smallest one begun still low silence
steps = tt

trained : Memory
unfolding steps
trained = next_memory smallest begun (one (pos 16384) (pos 1))

decided : Memory
unfolding steps trained
decided = next_memory smallest trained (one (pos 16384) (pos 0))

weights : Memory → List ℤ
weights o = o.forward ++ o.back

-- a first block of one sample, trained on 1: b, ξ and the weights that it leaves. Those of −32768 and of 32767 are no swapped pair, so −32768 is left out there
first : ℤ → List ℤ
first m =
    let o = next_memory smallest begun (one m (pos 1)) in
    pos o.b ∷ pos (ξ smallest (Γ smallest begun (one m (pos 1))) (at smallest begun (one m (pos 1)) 0) (pos 1)) ∷ weights o

-- step 7, and what follows it, on new weights of both filters at ψ: the weights that are left, then ψ
normalises : ℕ → List ℤ → List ℤ → List ℤ
normalises ψ f b = let s = outcome_of ψ f b in normalised s f ++ normalised s b ++ (pos (normalised_exponent s ψ) ∷ [])

-- ψ after each of n samples of silence in one block, where all weights are 0 and ψ is 3
falling : ℕ → List ℤ
falling zero = []
falling (suc n) = falling n ++ (pos (after still low silence (suc n)).ψ ∷ [])

answers : ℕ → ℕ → ℕ → ℕ → ℕ → List ℤ
answers p N r L M = pos (settings_number (given p p N r L M)) ∷ []

-- D·2^L over 2^L: the whole part of D, and what remains
D : Settings → List ℤ
D k = pos (step_bound k / 2 ^ k.L) ∷ pos (step_bound k % 2 ^ k.L) ∷ []

-- the scale counts of k and of the numbers after it, n in all
scales : ℕ → ℕ → List ℤ
scales k zero = []
scales k (suc n) = pos (scale_count k) ∷ scales (suc k) n

-- ---- the table

pub cases : List Case
unfolding steps
cases =
    record { gives = answers 1 1 0 0 67108864; says = pos 0 ∷ [] }
    ∷ record { gives = answers 1 1 0 0 67108865; says = pos 2 ∷ [] }
    ∷ record { gives = D (given 3 3 2 2 1 0); says = pos 416 ∷ pos 0 ∷ [] }
    ∷ record { gives = answers 3 2 2 1 2581110; says = pos 0 ∷ [] }
    ∷ record { gives = answers 3 2 2 1 2581111; says = pos 2 ∷ [] }
    ∷ record { gives = pos (newb smallest begun (one (negsuc 32767) (pos 0))) ∷ []; says = pos 31 ∷ [] }
    ∷ record { gives = stored smallest begun (one (negsuc 32767) (pos 0)); says = negsuc 8191 ∷ [] }
    ∷ record { gives = (pos (Γ smallest begun (one (negsuc 32767) (pos 0))) -ℤ pos received_unit) ∷ []; says = pos 2 ∷ [] }
    ∷ record { gives = first (negsuc 32767); says = pos 31 ∷ pos 2 ∷ negsuc 2047 ∷ pos 0 ∷ [] }
    ∷ record { gives = first (pos 32767); says = pos 30 ∷ pos 1 ∷ pos 2047 ∷ pos 0 ∷ [] }
    ∷ record { gives = cut (negsuc 2) 1 ∷ []; says = negsuc 0 ∷ [] }
    ∷ record { gives = decide 1 (pos 268435456) 3 ∷ decide 1 (negsuc 268435455) 3 ∷ []; says = pos 3 ∷ negsuc 0 ∷ [] }
    ∷ record { gives = scales 1 16; says = map pos (1 ∷ 2 ∷ 3 ∷ 3 ∷ 4 ∷ 4 ∷ 4 ∷ 4 ∷ 5 ∷ 5 ∷ 5 ∷ 5 ∷ 5 ∷ 5 ∷ 5 ∷ 5 ∷ []) }
    ∷ record { gives = scales 17 16; says = replicate 16 (pos 6) }
    ∷ record { gives = scales 33 32; says = replicate 32 (pos 7) }
    ∷ record { gives = normalises 0 (pos 16383 ∷ []) (negsuc 2 ∷ []); says = pos 16383 ∷ negsuc 2 ∷ pos 0 ∷ [] }
    ∷ record { gives = normalises 0 (pos 16384 ∷ []) (negsuc 2 ∷ []); says = pos 8192 ∷ negsuc 0 ∷ pos 1 ∷ [] }
    ∷ record { gives = normalises 0 (negsuc 16384 ∷ []) (pos 0 ∷ []); says = negsuc 8191 ∷ pos 0 ∷ pos 1 ∷ [] }
    ∷ record { gives = normalises 1 (pos 4095 ∷ pos 4095 ∷ []) (pos 4095 ∷ []); says = pos 8190 ∷ pos 8190 ∷ pos 8190 ∷ pos 0 ∷ [] }
    ∷ record { gives = normalises 1 (pos 4095 ∷ pos 4096 ∷ []) (pos 4095 ∷ []); says = pos 4095 ∷ pos 4096 ∷ pos 4095 ∷ pos 1 ∷ [] }
    ∷ record { gives = normalises 1 (pos 4095 ∷ []) (pos 4095 ∷ negsuc 4095 ∷ []); says = pos 4095 ∷ pos 4095 ∷ negsuc 4095 ∷ pos 1 ∷ [] }
    ∷ record { gives = normalises 1 (negsuc 4095 ∷ []) (pos 4095 ∷ []); says = negsuc 4095 ∷ pos 4095 ∷ pos 1 ∷ [] }
    ∷ record { gives = normalises 1 (pos 4095 ∷ []) (pos 4096 ∷ []); says = pos 4095 ∷ pos 4096 ∷ pos 1 ∷ [] }
    ∷ record { gives = normalises 0 (pos 4095 ∷ []) (negsuc 4094 ∷ []); says = pos 4095 ∷ negsuc 4094 ∷ pos 0 ∷ [] }
    ∷ record { gives = normalises 5 (pos 16384 ∷ []) (pos 4095 ∷ []); says = pos 8192 ∷ pos 2047 ∷ pos 6 ∷ [] }
    ∷ record { gives = falling 5; says = pos 2 ∷ pos 1 ∷ pos 0 ∷ pos 0 ∷ pos 0 ∷ [] }
    ∷ record { gives = weights trained; says = pos 1024 ∷ pos 0 ∷ [] }
    ∷ record { gives = weights decided; says = pos 2032 ∷ pos 2016 ∷ [] } ∷ []

pub starred : map (λ (c : Case). c.gives) cases ≡ map (λ (c : Case). c.says) cases
unfolding cases steps trained decided weights first normalises falling answers D scales
starred = refl
