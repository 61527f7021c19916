-- The exponents of a block.
use Prim.Native.Nat.{ℕ, ◌+◌, ◌-◌, ◌^◌, ◌≤◌, ◌<◌}
use native.Mathlib.Omega.{arith}
use native.Mathlib.Nat.{le-max_left, le-max_right, max-le, lt_of_le_of_lt}
use lib.IntN.{ℤ, nat_abs}
use Rattle.laws.specs.Powers.{rises_strictly}
use Rattle.laws.specs.Sums.{Each, each_weaken}
use Rattle.numbers.proofs.BitLengthLaws.{bit_length_above, bit_length_le}
use Rattle.steps.specs.Limits.{received_unit, gain_limit, length_limit}
use Rattle.steps.specs.Settings.{Settings, scale_forward}
use Rattle.steps.specs.Fir.{largest, magnitudes}
use Rattle.block.specs.Block.{Block, Memory, received_all, newb, new_b, Γ}
use Rattle.block.specs.Sound.{Sound, Acceptable}
use Rattle.steps.proofs.LargestLaws.{largest_magnitude, each_magnitude}
use Rattle.block.proofs.ReceivedLaws.{received_each}

module _ (k : Settings) (o : Memory) (i : Block) where
  pub received_below : Each (λ (x : ℤ). nat_abs x < 2 ^ newb k o i) (received_all i.samples i.gains)
  unfolding newb
  received_below =
      each_weaken (λ (x : ℤ). nat_abs x ≤ largest (magnitudes (received_all i.samples i.gains))) (λ (x : ℤ). nat_abs x < 2 ^ newb k o i)
      (λ x l. lt_of_le_of_lt l (bit_length_above (largest (magnitudes (received_all i.samples i.gains))))) (received_all i.samples i.gains)
      (each_magnitude (received_all i.samples i.gains))

  pub newb_new_b : newb k o i ≤ new_b k o i
  unfolding new_b
  newb_new_b = le-max_left (newb k o i) o.b

  pub oldb_new_b : o.b ≤ new_b k o i
  unfolding new_b
  oldb_new_b = le-max_right (newb k o i) o.b

  pub newb_most : k.L ≤ gain_limit → Acceptable k i → newb k o i + k.L ≤ length_limit
  unfolding newb
  newb_most l a = omega (
    arith,
    bit_length_le (largest (magnitudes (received_all i.samples i.gains))) (length_limit - k.L) (omega (
      arith,
      largest_magnitude (λ (n : ℕ). n ≤ 2 ^ (received_unit - k.L)) (omega arith) (received_all i.samples i.gains)
          (received_each k.L i.samples i.gains l a.samples_are a.gains_least),
      rises_strictly {a = received_unit - k.L} {b = length_limit - k.L} (omega arith),
    )),
  )

  pub new_b_most : Sound k o → Acceptable k i → new_b k o i + k.L ≤ length_limit
  unfolding new_b
  new_b_most s a = omega (arith, max-le {a = newb k o i} {b = o.b} {k = length_limit - k.L} (omega (arith, newb_most s.within.L_most a)) (omega (arith, s.b_most, s.B_most)), s.within.L_most)

  pub Γ_least : scale_forward k ≤ Γ k o i
  unfolding Γ
  Γ_least = omega arith

  pub Γ_most : Sound k o → Acceptable k i → Γ k o i + k.L ≤ k.r + length_limit + scale_forward k
  unfolding Γ
  Γ_most s a = omega (arith, new_b_most s a)
