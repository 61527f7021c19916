-- What the functions of the steps ask, as plain bounds.
use Rattle.std.specs.Prelude.{◌≡◌, List, [], ◌∷◌, ℕ, ◌+◌, ◌*◌, ◌-◌, ◌^◌, ◌≤◌, ◌<◌, length, get_or, ℤ, pos, nat_abs}
use Rattle.std.specs.Int.Bits.{bit_or}
use Rattle.laws.specs.Sums.{Each}
use Rattle.numbers.specs.Cut.{rescale}
use Rattle.steps.specs.Limits.{data_unit, output_unit, step_unit, received_unit, tap_limit, block_limit, symbol_limit, gain_limit, exponent_limit, halving_limit, scale_limit, data_exponent_limit, output_exponent_limit, length_limit}
use Rattle.steps.specs.Settings.{Settings, step_bound}
use Rattle.steps.specs.Fir.{Small, adapted, largest, magnitudes}
use Rattle.steps.specs.Error.{error_exponent}

-- sizes within their limits
pub record Within (k : Settings) : Type 0 where
  pub p_least : 1 ≤ k.p
  pub p_most : k.p ≤ tap_limit
  pub q_least : 1 ≤ k.q
  pub q_most : k.q ≤ tap_limit
  pub N_least : 1 ≤ k.N
  pub N_window : k.p ≤ k.N + 1
  pub N_most : k.N ≤ block_limit
  pub r_most : k.r ≤ symbol_limit
  pub L_most : k.L ≤ gain_limit

-- M-as-D ≤ 2^step_unit
abbrev pub Admitted : Settings → Type 0
Admitted k = k.M * step_bound k ≤ 2 ^ (step_unit + k.L)

-- the least shift by which M-as-Z is cut in step 6
abbrev pub factor_shift_least : ℕ
factor_shift_least = step_unit + received_unit - (symbol_limit + length_limit + data_exponent_limit)

-- the length of a line: those of a block, and what was there before it
abbrev pub line_length : ℕ
line_length = block_limit + tap_limit

-- a sum of products whose partial sums fit 32 bits
pub record Summable (w a : List ℤ) : Type 0 where
  pub same_length : length w ≡ length a
  pub small : Each Small w
  pub bound : length w * (halving_limit * largest (magnitudes a)) < 2 ^ 31

-- new weights below 2^weight_unit in magnitude, where K is J·2^(data_unit − t)
pub record Adaptable (J : ℤ) (t : ℕ) (w a : List ℤ) : Type 0 where
  pub same_length : length w ≡ length a
  pub small : Each Small w
  pub t_most : t ≤ data_unit
  pub factor_small : nat_abs J ≤ 2 ^ (output_unit - 1)
  pub bound : nat_abs J * largest (magnitudes a) < 2 ^ (output_unit - 1 + t)

-- the sums of weights times samples and times symbols, and their exponents
pub record OutputBounds (f h : ℤ) (Γ ν ψ : ℕ) : Type 0 where
  pub f_small : nat_abs f < 2 ^ (output_unit - 2)
  pub h_small : nat_abs h * 2 ^ (data_unit - ν) < 2 ^ (output_unit - 2)
  pub ψ_most : ψ ≤ exponent_limit
  pub ν_most : ν ≤ data_exponent_limit
  pub Γ_most : Γ ≤ data_exponent_limit + received_unit

-- a symbol beside an output
pub record ErrorBounds (r s : ℕ) (v y : ℤ) (ξ : ℕ) : Type 0 where
  pub r_most : r ≤ symbol_limit
  pub scale_least : 1 ≤ s
  pub scale_most : s ≤ scale_limit
  pub v_small : nat_abs v < 2 ^ (r + 1)
  pub y_small : nat_abs y < 2 ^ (output_unit - 1)
  pub ξ_least : 1 ≤ ξ
  pub ξ_most : ξ ≤ output_exponent_limit

-- both with their exponents
pub record DifferenceBounds (v y : ℤ) (ξ κ : ℕ) : Type 0 where
  pub y_small : nat_abs y < 2 ^ (output_unit - 1)
  pub ξ_most : ξ ≤ output_unit
  pub κ_most : κ ≤ output_unit
  pub room : nat_abs v * 2 ^ (output_unit - error_exponent ξ κ) ≤ 2 ^ (output_unit - 1)

-- a stored sample at another exponent: T(z·2^(i−j)) is one too
pub record Storable (i j : ℕ) (z : ℤ) : Type 0 where
  pub shift : i < 63
  pub room : nat_abs z * 2 ^ i < 2 ^ 63
  pub bound : nat_abs (rescale z i j) < 2 ^ data_unit

-- the bitwise or of several numbers
unfoldable pub or_all : List ℕ → ℕ
or_all [] = 0
or_all (n ∷ ns) = bit_or n (or_all ns)

-- a call for each weight and its datum may be made
abbrev pub MayMake : (ℤ → ℤ → Type 0) → List ℤ → List ℤ → Type 0
MayMake pre w a = (i : ℕ) → i < length w → pre (get_or w i (pos 0)) (get_or a i (pos 0))

-- and gives the new weight
abbrev pub Makes : (ℤ → ℤ → ℤ → Type 0) → ℤ → List ℤ → List ℤ → Type 0
Makes post k w a = (i : ℕ) (x : ℤ) → i < length w → post (get_or w i (pos 0)) (get_or a i (pos 0)) x → x ≡ adapted k (get_or w i (pos 0)) (get_or a i (pos 0))
