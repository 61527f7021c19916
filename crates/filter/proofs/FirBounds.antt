-- Bounds of one filter, over its lists.
use mathlib.Core.Path.{◌≡◌, refl, sym, ap, ◌∙◌}
use Prim.Native.Nat.{ℕ, ◌+◌, ◌*◌, ◌-◌, ◌^◌, ◌≤◌, ◌<◌}
use native.Mathlib.Omega.{arith}
use native.Mathlib.Nat.{mul-le-mul_left, mul-le-mul_right}
use lib.ListN.{length}
use lib.IntN.{ℤ, nat_abs}
use Rattle.laws.specs.Powers.{split, split3, rises, cancel_le, lower}
use Rattle.laws.specs.Sums.{Each, each_weaken, dot_bound}
use Rattle.numbers.specs.Cut.{raise}
use Rattle.numbers.proofs.CutLaws.{raise_abs}
use Rattle.steps.specs.Limits.{weight_unit, data_unit, output_unit, step_unit, received_unit, symbol_limit, halving_limit, data_exponent_limit, length_limit}
use Rattle.steps.specs.Sound.{factor_shift_least, Summable, Adaptable}
use Rattle.steps.specs.Fir.{Small, Fir, sum, new_weights, largest, magnitudes}
use Rattle.steps.proofs.LargestLaws.{largest_magnitude, each_magnitude}
use Rattle.steps.proofs.FirLaws.{adapt_each}

-- the facts of a filter of n taps
pub record FirFit (r n : ℕ) (f : Fir) : Type 0 where
  pub weights_long : length f.weights ≡ n
  pub mantissas_long : length f.mantissas ≡ n
  pub weights_small : Each Small f.weights
  pub mantissas_small : Each (λ (a : ℤ). nat_abs a * 2 ^ f.scale < 2 ^ data_unit) f.mantissas
  pub scale_enough : 2 * n ≤ 2 ^ f.scale
  pub exponent_least : f.scale ≤ f.exponent
  pub exponent_most : f.exponent ≤ r + length_limit + f.scale

-- ---- the sum and the update of a filter

module _ {r n : ℕ} (f : Fir) (h : FirFit r n f) where
  mantissas_largest : largest (magnitudes f.mantissas) * 2 ^ f.scale < 2 ^ data_unit
  mantissas_largest = largest_magnitude (λ (m : ℕ). m * 2 ^ f.scale < 2 ^ data_unit) (omega arith) f.mantissas h.mantissas_small

  -- |sum|·2^s ≤ n·(halving_limit − 1)·(2^data_unit − 1)
  sum_most : nat_abs (sum f) * 2 ^ f.scale ≤ n * ((halving_limit - 1) * (2 ^ data_unit - 1))
  sum_most = go (largest (magnitudes f.mantissas)) mantissas_largest
      (dot_bound (halving_limit - 1) (largest (magnitudes f.mantissas)) f.weights f.mantissas
      (each_weaken Small (λ (x : ℤ). nat_abs x ≤ halving_limit - 1) (λ x l. omega arith) f.weights h.weights_small)
      (each_magnitude f.mantissas))
    where
      go : (m : ℕ) → m * 2 ^ f.scale < 2 ^ data_unit → nat_abs (sum f) ≤ length f.weights * ((halving_limit - 1) * m) → nat_abs (sum f) * 2 ^ f.scale ≤ n * ((halving_limit - 1) * (2 ^ data_unit - 1))
      go m b l = omega (arith, mul-le-mul_right (2 ^ f.scale) l, ap (λ (k : ℕ). k * (m * 2 ^ f.scale)) h.weights_long, mul-le-mul_left n b)

  sum_scaled : nat_abs (sum f) * 2 ^ f.scale ≤ n * 2 ^ (weight_unit - 1 + data_unit)
  sum_scaled = omega (arith, sum_most)

  -- the same at a scale as high as the exponent may be
  pub sum_raised : (x : ℕ) → x ≤ r + length_limit + f.scale → nat_abs (sum f) * 2 ^ x ≤ n * (2 ^ r * 2 ^ (weight_unit - 1 + data_unit + length_limit))
  sum_raised x l = omega (
    arith,
    mul-le-mul_left (nat_abs (sum f)) (rises l),
    ap (λ (m : ℕ). nat_abs (sum f) * m) (split3 (r + length_limit + f.scale) r length_limit f.scale (omega arith)),
    mul-le-mul_right (2 ^ r * 2 ^ length_limit) sum_scaled,
  )

  pub sum_small : nat_abs (sum f) < 2 ^ (weight_unit + data_unit - 2)
  sum_small = omega (arith, cancel_le {m = 2 * nat_abs (sum f)} {n = (halving_limit - 1) * (2 ^ data_unit - 1)} f.scale (omega (arith, sum_most, h.scale_enough)))

  pub summable : Summable f.weights f.mantissas
  summable = record {
    same_length = h.weights_long ∙ sym h.mantissas_long;
    small = h.weights_small;
    bound = go (largest (magnitudes f.mantissas)) mantissas_largest;
  }
    where
      go : (m : ℕ) → m * 2 ^ f.scale < 2 ^ data_unit → length f.weights * (halving_limit * m) < 2 ^ 31
      go m b = omega (arith, mul-le-mul_right m h.scale_enough, ap (λ (l : ℕ). l * m) h.weights_long)

  pub adaptable : (J : ℤ) → nat_abs J ≤ 2 ^ (output_unit - 1) → f.scale ≤ data_unit → Adaptable J (data_unit - f.scale) f.weights f.mantissas
  adaptable J j l = record {
    same_length = h.weights_long ∙ sym h.mantissas_long;
    small = h.weights_small;
    t_most = omega arith;
    factor_small = j;
    bound = go (largest (magnitudes f.mantissas)) mantissas_largest;
  }
    where
      go : (m : ℕ) → m * 2 ^ f.scale < 2 ^ data_unit → nat_abs J * m < 2 ^ (output_unit - 1 + (data_unit - f.scale))
      go m b = omega (arith, mul-le-mul_right m j, split (output_unit - 1 + (data_unit - f.scale)) (output_unit - 1) (data_unit - f.scale) refl, lower m data_unit (data_unit - f.scale) f.scale (omega arith) b)

  -- what each weight gains is below half of 2^weight_unit, as the weight is
  pub new_weights_small : (J : ℤ) → nat_abs J ≤ 2 ^ (output_unit - 1) → Each (λ (x : ℤ). nat_abs x < 2 ^ weight_unit) (new_weights J f)
  new_weights_small J j =
      adapt_each (raise J f.scale) (largest (magnitudes f.mantissas)) (go (largest (magnitudes f.mantissas)) mantissas_largest)
      f.weights f.mantissas h.weights_small (each_magnitude f.mantissas)
    where
      go : (m : ℕ) → m * 2 ^ f.scale < 2 ^ data_unit → nat_abs (raise J f.scale) * m < 2 ^ (output_unit - 1 + data_unit)
      go m b = omega (arith, ap (λ (l : ℕ). l * m) (raise_abs J f.scale), mul-le-mul_right (m * 2 ^ f.scale) j)

  -- the shift of M-as-Z never falls below its least
  pub shift_least : (ψ θ : ℕ) → r ≤ symbol_limit → θ ≤ ψ + data_exponent_limit → f.exponent + θ + factor_shift_least ≤ step_unit + received_unit + ψ + f.scale
  shift_least ψ θ l e = omega (arith, h.exponent_most)

  -- nor above what it is without exponents
  pub shift_most : (ψ θ : ℕ) → ψ ≤ θ → step_unit + received_unit + ψ + f.scale ≤ f.exponent + θ + (step_unit + received_unit)
  shift_most ψ θ l = omega (arith, h.exponent_least)
