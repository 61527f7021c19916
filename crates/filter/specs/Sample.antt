-- One sample: its steps, the exact LMS step, and what holds. Γ stands for γ + received_unit, a natural number.
use Rattle.std.specs.Prelude.{◌≡◌, Bool, ◌&&◌, cond, List, map, ℕ, suc, ◌+◌, ◌*◌, ◌-◌, ◌^◌, ◌≤◌, ◌<◌, eqb, ltb, get_or, ℤ, pos, nat_abs, ◌+ℤ◌, ◌-ℤ◌, ◌*ℤ◌}
use Rattle.laws.specs.Sums.{Each, dot}
use Rattle.numbers.specs.BitLength.{bit_length}
use Rattle.numbers.specs.Cut.{raise}
use Rattle.steps.specs.Settings.{Settings, scale_forward, scale_back}
use Rattle.steps.specs.Limits.{weight_unit, data_unit, output_unit, step_unit, received_unit, mantissa_unit, exact_unit, output_raise, weight_raise, doubling_limit, output_exponent_limit}
use Rattle.steps.specs.Fir.{Fir, Small, sum, factor, new_weights, all_below, all_small, halved, doubled, push, largest_bits}
use Rattle.steps.specs.Output.{output, output_exponent}
use Rattle.steps.specs.Decision.{decide}
use Rattle.steps.specs.Error.{error, error_exponent}

-- the weights of both filters, the p stored samples A and the last q symbols, newest first, and ψ
pub record FilterState : Type 0 where
  pub forward : List ℤ
  pub back : List ℤ
  pub samples : List ℤ
  pub symbols : List ℤ
  pub ψ : ℕ

-- 7, and what follows it: new weights are kept, or all halved, or all doubled
pub data Outcome : Type 0 where
  keep : Outcome
  halve : Outcome
  double : Outcome

abbrev pub can_fall : ℕ → Bool
can_fall ψ = ltb 0 ψ

-- halved where one has reached the halving limit; else doubled where ψ can fall and none has reached the doubling limit
unfoldable pub outcome_of : ℕ → List ℤ → List ℤ → Outcome
outcome_of ψ forward back =
    cond (all_small forward && all_small back)
    (cond (can_fall ψ && (all_below doubling_limit forward && all_below doubling_limit back)) double keep)
    halve

-- the weights of a filter, and ψ
abbrev pub normalised : Outcome → List ℤ → List ℤ
normalised keep w = w
normalised halve w = halved w
normalised double w = doubled w

abbrev pub normalised_exponent : Outcome → ℕ → ℕ
normalised_exponent keep ψ = ψ
normalised_exponent halve ψ = suc ψ
normalised_exponent double ψ = ψ - 1

-- ---- the exact LMS step, as whole numbers

-- y*, times 2^exact_unit: the unrounded sum of weight times data, W·2^(ψ − weight_unit) times A·2^(γ − data_unit) or v
abbrev pub exact_output : ℕ → FilterState → ℤ
exact_output Γ t = raise (raise (dot t.forward t.samples) Γ +ℤ raise (dot t.back t.symbols) mantissa_unit) t.ψ

-- weight + μ·data·(v − y*), times 2^exact_weight_unit, for a datum d·2^(x − mantissa_unit) and y, which is y*·2^exact_unit
abbrev pub exact_weight : ℕ → ℕ → ℤ → ℤ → ℤ → ℕ → ℤ → ℤ
exact_weight M ψ y v d x w = raise w (weight_raise + ψ) +ℤ pos M *ℤ raise d x *ℤ (raise v exact_unit -ℤ y)

-- 1 + 1/1024 units, in 1024ths of a unit
abbrev pub distance : ℕ
distance = 1025

-- the stored weight w at its ψ and the exact one, times 2^exact_weight_unit e, are at most 1 + 1/1024 units of
-- 2^(u − weight_unit) apart: both sides times 1024·2^exact_weight_unit
abbrev pub Near : ℕ → ℕ → ℤ → ℤ → Type 0
Near u ψ w e = nat_abs (raise w (weight_raise + ψ) -ℤ e) * 1024 ≤ distance * 2 ^ (weight_raise + u)

-- u is the new ψ, but the ψ before the sample where the weights are doubled
abbrev pub unit_exponent : Outcome → ℕ → ℕ
unit_exponent keep ψ = ψ
unit_exponent halve ψ = suc ψ
unit_exponent double ψ = ψ

-- the values of weights, times 2^weight_unit: W·2^ψ
abbrev pub values_of : ℕ → List ℤ → List ℤ
values_of ψ w = map (λ (x : ℤ). raise x ψ) w

-- the weights of both filters at ψ' mean the same numbers as those at ψ
pub record SameValues (ψ : ℕ) (forward back : List ℤ) (ψ' : ℕ) (forward' back' : List ℤ) : Type 0 where
  pub ahead : values_of ψ' forward' ≡ values_of ψ forward
  pub behind : values_of ψ' back' ≡ values_of ψ back

-- ---- a sample

module _ (k : Settings) (Γ : ℕ) (t : FilterState) (entry : ℤ) where
  -- 1
  unfoldable pub ν : ℕ
  ν = scale_back k + largest_bits t.symbols

  -- 1: a past symbol as it is held
  abbrev pub held : ℤ → ℤ
  held v = raise v (data_unit - ν)

  abbrev pub forward_fir : Fir
  forward_fir = record { weights = t.forward; mantissas = t.samples; scale = scale_forward k; exponent = Γ }

  abbrev pub back_fir : Fir
  back_fir = record { weights = t.back; mantissas = map held t.symbols; scale = scale_back k; exponent = ν + received_unit }

  -- 2
  unfoldable pub F : ℤ
  F = sum forward_fir

  unfoldable pub H : ℤ
  H = sum back_fir

  -- 3
  unfoldable pub Y : ℤ
  Y = output F H Γ ν

  unfoldable pub ξ : ℕ
  ξ = output_exponent t.ψ Γ ν

  -- 4
  unfoldable pub decision : ℤ
  decision = decide k.r Y ξ

  -- 5
  unfoldable pub v : ℤ
  v = cond (eqb (nat_abs entry) 0) decision entry

  unfoldable pub κ : ℕ
  κ = scale_back k + bit_length (nat_abs v)

  unfoldable pub Z : ℤ
  Z = error v Y ξ κ

  unfoldable pub θ : ℕ
  θ = error_exponent ξ κ

  -- 6
  unfoldable pub J : Fir → ℤ
  J f = factor k.M Z t.ψ θ f

  unfoldable pub new_forward : List ℤ
  new_forward = new_weights (J forward_fir) forward_fir

  unfoldable pub new_back : List ℤ
  new_back = new_weights (J back_fir) back_fir

  -- 7
  unfoldable pub outcome : Outcome
  outcome = outcome_of t.ψ new_forward new_back

  -- 7 and 8
  unfoldable pub next : FilterState
  next = record {
    forward = normalised outcome new_forward;
    back = normalised outcome new_back;
    samples = t.samples;
    symbols = push v t.symbols;
    ψ = normalised_exponent outcome t.ψ;
  }

  -- ---- what holds

  -- its numbers keep their bounds
  pub record Bounded : Type 0 where
    pub F_small : nat_abs F < 2 ^ (output_unit - 2)
    pub H_small : nat_abs H < 2 ^ (output_unit - 2)
    pub Y_small : nat_abs Y < 2 ^ (output_unit - 1)
    pub Z_small : nat_abs Z < 2 ^ output_unit
    pub ξ_least : 1 ≤ ξ
    pub ξ_most : ξ ≤ output_exponent_limit
    pub θ_least : 1 ≤ θ
    pub θ_most : θ ≤ output_exponent_limit
    -- no difference of exponents is cut off at 0
    pub ν_most : ν ≤ data_unit
    pub forward_shift : Γ + θ ≤ step_unit + received_unit + t.ψ + scale_forward k
    pub back_shift : ν + received_unit + θ ≤ step_unit + received_unit + t.ψ + scale_back k
    pub new_forward_lem : Each (λ (w : ℤ). nat_abs w < 2 ^ weight_unit) new_forward
    pub new_back_lem : Each (λ (w : ℤ). nat_abs w < 2 ^ weight_unit) new_back
    pub next_forward : Each Small next.forward
    pub next_back : Each Small next.back

  -- the exact new weight of a weight w whose datum is d·2^(x − mantissa_unit)
  abbrev pub exact_step : ℤ → ℕ → ℤ → ℤ
  exact_step d x w = exact_weight k.M t.ψ (exact_output Γ t) v d x w

  -- the stored new weight w is close to the exact one
  abbrev pub NearStep : ℤ → ℤ → Type 0
  NearStep w e = Near (unit_exponent outcome t.ψ) next.ψ w e

  -- its results are close to the exact ones
  pub record Faithful : Type 0 where
    -- |y − y*| < 2^(ξ − output_unit), both sides times 2^exact_unit
    pub output_near : nat_abs (raise Y (ξ + output_raise) -ℤ exact_output Γ t) < 2 ^ (ξ + output_raise)
    -- each of the p and q weights: its datum is A·2^(γ − data_unit), or a past symbol
    pub forward_near : (n : ℕ) → n < k.p → NearStep (get_or next.forward n (pos 0)) (exact_step (get_or t.samples n (pos 0)) Γ (get_or t.forward n (pos 0)))
    pub back_near : (n : ℕ) → n < k.q → NearStep (get_or next.back n (pos 0)) (exact_step (get_or t.symbols n (pos 0)) mantissa_unit (get_or t.back n (pos 0)))

  -- what step 7 and the doubling after it leave, once: the new weights as they are; or the cut half of each; or twice each, with the same values
  pub data Normalised : Type 0 where
    kept : next.forward ≡ new_forward → next.back ≡ new_back → next.ψ ≡ t.ψ → Normalised
    halved_once : next.forward ≡ halved new_forward → next.back ≡ halved new_back → next.ψ ≡ suc t.ψ → Normalised
    doubled_once : next.forward ≡ doubled new_forward → next.back ≡ doubled new_back → suc next.ψ ≡ t.ψ →
        SameValues t.ψ new_forward new_back next.ψ next.forward next.back → Normalised

  -- with M = 0 no weight changes its value
  abbrev pub Frozen : Type 0
  Frozen = k.M ≡ 0 → SameValues t.ψ t.forward t.back next.ψ next.forward next.back
