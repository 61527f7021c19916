-- A sound state at a sample: its two filters, and its exponents.
use mathlib.Core.Path.{◌≡◌, refl, sym, ap, ◌∙◌, subst}
use mathlib.Core.Bool.{true}
use mathlib.Core.List.{map}
use Prim.Native.Nat.{ℕ, ◌+◌, ◌*◌, ◌-◌, ◌^◌, ◌≤◌, ◌<◌}
use native.Mathlib.Omega.{arith}
use native.Mathlib.Nat.{le-max_right, max-le}
use lib.ListN.{length-map}
use lib.IntN.{ℤ, pos, nat_abs}
use Rattle.laws.specs.Powers as Powers
use Rattle.laws.specs.Powers.{split, positive, rises, exponent_le}
use Rattle.laws.specs.Sums.{Each, each_map, each_weaken, dot, dot_scale}
use Rattle.numbers.specs.Cut.{raise}
use Rattle.numbers.specs.ScaleCount.{scale_count}
use Rattle.numbers.proofs.CutLaws.{raise_abs, raise_raise}
use Rattle.numbers.proofs.BitLengthLaws.{bit_length_le}
use Rattle.numbers.proofs.ScaleCountLaws.{scale_enough, scale_least}
use Rattle.steps.specs.Limits.{data_unit, received_unit, mantissa_unit, tap_limit, scale_limit, data_exponent_limit}
use Rattle.steps.specs.Settings.{Settings, scale_forward, scale_back, is_symbol, is_entry}
use Rattle.steps.specs.Fir.{Fir, adapt, largest, magnitudes, largest_bits}
use Rattle.filter.specs.Sample.{FilterState, ν, held, forward_fir, back_fir, H, ξ, decision, v, κ, θ, J, new_back}
use Rattle.filter.specs.Sound.{Fit}
use Rattle.steps.proofs.LargestLaws.{largest_magnitude, largest_bits_is, largest_bits_above}
use Rattle.steps.proofs.FirLaws.{adapt_raise}
use Rattle.filter.proofs.SampleForms.{ξ_form, θ_form}
use Rattle.filter.proofs.FirBounds.{FirFit}
use Rattle.steps.proofs.SymbolLaws.{entry_below, symbol_below, decide_symbol, chosen_symbol}

-- the scale count of no more taps than there may be
scale_positive : (n : ℕ) → 1 ≤ n → 1 ≤ scale_count n
scale_positive n h = exponent_le 1 (scale_count n) (omega (arith, scale_enough n))

pub scale_most : (n : ℕ) → n ≤ tap_limit → scale_count n ≤ scale_limit
scale_most n h = scale_least n scale_limit (omega arith)

-- the past symbols as they are make a filter too: a symbol v means v·2^(mantissa_unit − mantissa_unit)
abbrev pub symbol_fir : Settings → ℕ → FilterState → ℤ → Fir
symbol_fir k Γ t entry = record { weights = t.back; mantissas = t.symbols; scale = scale_back k + (data_unit - ν k Γ t entry); exponent = mantissa_unit }

module _ (k : Settings) (Γ : ℕ) (t : FilterState) (entry : ℤ) (h : Fit k Γ t) where
  pub scale_forward_most : scale_forward k ≤ scale_limit
  scale_forward_most = scale_most k.p h.within.p_most

  pub scale_back_least : 1 ≤ scale_back k
  scale_back_least = scale_positive k.q h.within.q_least

  pub scale_back_most : scale_back k ≤ scale_limit
  scale_back_most = scale_most k.q h.within.q_most

  pub largest_bits_most : largest_bits t.symbols ≤ k.r + 1
  largest_bits_most = rw largest_bits_is (bit_length_le (largest (magnitudes t.symbols)) (k.r + 1)
      (largest_magnitude (λ (n : ℕ). n < 2 ^ (k.r + 1)) (positive (k.r + 1)) t.symbols
      (each_weaken (λ (u : ℤ). is_entry k.r u ≡ true) (λ (u : ℤ). nat_abs u < 2 ^ (k.r + 1)) (λ u e. entry_below k.r u e) t.symbols h.symbols_are)))

  pub ν_is : ν k Γ t entry ≡ scale_back k + largest_bits t.symbols
  unfolding ν
  ν_is = refl

  pub ν_most : ν k Γ t entry ≤ data_exponent_limit
  ν_most = omega (arith, ν_is, scale_back_most, largest_bits_most, h.within.r_most)

  -- ---- the past symbols

  symbol_scale : scale_back k + (data_unit - ν k Γ t entry) ≡ data_unit - largest_bits t.symbols
  symbol_scale = omega (arith, ν_is, ν_most)

  pub symbol_scale_most : scale_back k + (data_unit - ν k Γ t entry) ≤ data_unit
  symbol_scale_most = omega (arith, symbol_scale)

  symbols_raised : Each (λ (u : ℤ). nat_abs u * 2 ^ (data_unit - largest_bits t.symbols) < 2 ^ data_unit) t.symbols
  symbols_raised = each_weaken (λ (u : ℤ). nat_abs u < 2 ^ largest_bits t.symbols) (λ (u : ℤ). nat_abs u * 2 ^ (data_unit - largest_bits t.symbols) < 2 ^ data_unit)
      (λ u l. Powers.raise (nat_abs u) data_unit (largest_bits t.symbols) (data_unit - largest_bits t.symbols) (omega (arith, largest_bits_most, h.within.r_most)) l)
      t.symbols (largest_bits_above t.symbols)

  held_small : Each (λ (a : ℤ). nat_abs a * 2 ^ scale_back k < 2 ^ data_unit) (map (held k Γ t entry) t.symbols)
  held_small = each_map (λ (u : ℤ). nat_abs u * 2 ^ (data_unit - largest_bits t.symbols) < 2 ^ data_unit) (λ (a : ℤ). nat_abs a * 2 ^ scale_back k < 2 ^ data_unit) (held k Γ t entry)
      (λ u l. omega (
        arith,
        ap (λ (n : ℕ). n * 2 ^ scale_back k) (raise_abs u (data_unit - ν k Γ t entry)),
        ap (λ (n : ℕ). nat_abs u * n) (split (data_unit - largest_bits t.symbols) (data_unit - ν k Γ t entry) (scale_back k) (omega (arith, ν_is, ν_most))),
      ))
      t.symbols symbols_raised

  pub H_raised : H k Γ t entry ≡ raise (dot t.back t.symbols) (data_unit - ν k Γ t entry)
  unfolding H
  H_raised = dot_scale (pos (2 ^ (data_unit - ν k Γ t entry))) t.back t.symbols

  pub new_back_raised : new_back k Γ t entry ≡ adapt (raise (J k Γ t entry (back_fir k Γ t entry)) (scale_back k + (data_unit - ν k Γ t entry))) t.back t.symbols
  unfolding new_back
  new_back_raised =
      adapt_raise (data_unit - ν k Γ t entry) (raise (J k Γ t entry (back_fir k Γ t entry)) (scale_back k)) t.back t.symbols
      ∙ ap (λ (z : ℤ). adapt z t.back t.symbols) (raise_raise (J k Γ t entry (back_fir k Γ t entry)) (scale_back k) (data_unit - ν k Γ t entry) _ refl)

  -- ---- the two filters

  pub forward_fit : FirFit k.r k.p (forward_fir k Γ t entry)
  forward_fit = record {
    weights_long = h.forward_long;
    mantissas_long = h.samples_long;
    weights_small = h.forward_small;
    mantissas_small = h.samples_small;
    scale_enough = scale_enough k.p;
    exponent_least = h.Γ_least;
    exponent_most = omega (arith, h.Γ_most);
  }

  pub back_fit : FirFit k.r k.q (back_fir k Γ t entry)
  back_fit = record {
    weights_long = h.back_long;
    mantissas_long = length-map t.symbols (held k Γ t entry) ∙ h.symbols_long;
    weights_small = h.back_small;
    mantissas_small = held_small;
    scale_enough = scale_enough k.q;
    exponent_least = omega (arith, ν_is);
    exponent_most = omega (arith, ν_is, largest_bits_most);
  }

  pub symbol_fit : FirFit k.r k.q (symbol_fir k Γ t entry)
  symbol_fit = record {
    weights_long = h.back_long;
    mantissas_long = h.symbols_long;
    weights_small = h.back_small;
    mantissas_small = subst (λ (s : ℕ). Each (λ (u : ℤ). nat_abs u * 2 ^ s < 2 ^ data_unit) t.symbols) (sym symbol_scale) symbols_raised;
    scale_enough = omega (arith, h.within.q_most, rises {a = 11} {b = scale_back k + (data_unit - ν k Γ t entry)} (omega (arith, symbol_scale, largest_bits_most, h.within.r_most)));
    exponent_least = omega (arith, symbol_scale);
    exponent_most = omega (arith, symbol_scale, largest_bits_most, h.within.r_most);
  }

  -- ---- v and the exponents

  pub ξ_least : 1 ≤ ξ k Γ t entry
  ξ_least = omega (arith, ξ_form k Γ t entry, le-max_right Γ (ν k Γ t entry + received_unit), ν_is, scale_back_least)

  pub ξ_most : ξ k Γ t entry ≤ t.ψ + data_exponent_limit
  ξ_most = omega (
    arith,
    ξ_form k Γ t entry,
    max-le {a = Γ} {b = ν k Γ t entry + received_unit} {k = data_exponent_limit + received_unit} (omega (arith, h.Γ_most, h.within.r_most, scale_forward_most)) (omega (arith, ν_most)),
  )

  pub θ_above : t.ψ ≤ θ k Γ t entry
  θ_above = omega (
    arith,
    θ_form k Γ t entry,
    le-max_right (κ k Γ t entry) (ξ k Γ t entry),
    ξ_form k Γ t entry,
    le-max_right Γ (ν k Γ t entry + received_unit),
  )

  module _ (e : is_entry k.r entry ≡ true) where
    pub v_symbol : is_symbol k.r (v k Γ t entry) ≡ true
    unfolding v decision
    v_symbol = chosen_symbol k.r entry (decision k Γ t entry) e (decide_symbol k.r _ _)

    pub v_below : nat_abs (v k Γ t entry) < 2 ^ (k.r + 1)
    v_below = symbol_below k.r (v k Γ t entry) v_symbol

    pub κ_most : κ k Γ t entry ≤ data_exponent_limit
    unfolding κ
    κ_most = omega (arith, scale_back_most, bit_length_le (nat_abs (v k Γ t entry)) (k.r + 1) v_below, h.within.r_most)

    pub θ_least : 1 ≤ θ k Γ t entry
    θ_least = omega (arith, θ_form k Γ t entry, le-max_right (κ k Γ t entry) (ξ k Γ t entry), ξ_least)

    pub θ_most : θ k Γ t entry ≤ t.ψ + data_exponent_limit
    θ_most = omega (arith, θ_form k Γ t entry, max-le {a = κ k Γ t entry} {b = ξ k Γ t entry} {k = t.ψ + data_exponent_limit} (omega (arith, κ_most)) ξ_most)
