-- What the functions of a sample ask and promise, as records with named parts.
use Rattle.std.specs.Prelude.{◌≡◌, true, cond, List, ◌∷◌, ℕ, ◌+◌, ◌-◌, ◌^◌, ◌≤◌, ◌<◌, eqb, ltb, length, get_or, ℤ, pos, nat_abs, ◌*ℤ◌}
use Rattle.laws.specs.Sums.{Each, dot}
use Rattle.numbers.specs.BitLength.{bit_length}
use Rattle.numbers.specs.Cut.{cut, raise}
use Rattle.steps.specs.Limits.{data_unit, output_unit, step_unit, received_unit, symbol_limit, exponent_limit, scale_limit, data_exponent_limit, output_exponent_limit}
use Rattle.steps.specs.Settings.{Settings, is_entry, scale_forward, scale_back}
use Rattle.steps.specs.Fir.{adapt, largest_bits}
use Rattle.steps.specs.Output.{output, output_exponent}
use Rattle.steps.specs.Decision.{decide}
use Rattle.steps.specs.Error.{error, error_exponent}
use Rattle.filter.specs.Sample.{FilterState, outcome_of, normalised, normalised_exponent, Y, ξ, decision, v, Z, θ, next}
use Rattle.filter.specs.Sound.{Fit}
use Rattle.steps.specs.Sound.{Summable, Adaptable, OutputBounds}
use Rattle.filter.specs.declared.sample.BlockExponents.{BlockExponents}
use Rattle.filter.specs.declared.sample.Output.{Output}
use Rattle.filter.specs.declared.sample.Decision.{Decision}
use Rattle.filter.specs.declared.sample.SampleResult.{SampleResult}

abbrev pub filter_state_of : List ℤ → List ℤ → List ℤ → List ℤ → ℕ → FilterState
filter_state_of forward back samples symbols ψ = record { forward = forward; back = back; samples = samples; symbols = symbols; ψ = ψ }

-- ---- steps 1 to 3

-- where the delay is a place, the symbol there has a bit length above r
abbrev pub LargestBitsAt : ℕ → ℕ → List ℤ → Type 0
LargestBitsAt r delay symbols = delay < length symbols → r < bit_length (nat_abs (get_or symbols delay (pos 0)))

-- the delay after the symbol v
unfoldable pub next_delay : ℕ → ℕ → ℤ → ℕ
next_delay r delay v = cond (ltb r (bit_length (nat_abs v))) 0 (delay + 1)

pub record SymbolBounds (r delay : ℕ) (symbols : List ℤ) : Type 0 where
  pub r_most : r ≤ symbol_limit
  pub symbols_are : Each (λ (v : ℤ). is_entry r v ≡ true) symbols
  pub largest_bits_at : LargestBitsAt r delay symbols

pub record FilterBounds (e : BlockExponents) (ψ : ℕ) (forward back samples symbols : List ℤ) : Type 0 where
  pub forward_sum : Summable forward samples
  pub back_sum : Summable back symbols
  pub ν_most : e.sb + largest_bits symbols ≤ data_exponent_limit
  pub output_bounds : OutputBounds (dot forward samples) (dot back symbols) e.gamma30 (e.sb + largest_bits symbols) ψ

pub record OutputIs (e : BlockExponents) (ψ : ℕ) (forward back samples symbols : List ℤ) (h : Output) : Type 0 where
  pub nu : h.nu ≡ e.sb + largest_bits symbols
  pub y : h.y ≡ output (dot forward samples) (raise (dot back symbols) (data_unit - (e.sb + largest_bits symbols))) e.gamma30 (e.sb + largest_bits symbols)
  pub xi : h.xi ≡ output_exponent ψ e.gamma30 (e.sb + largest_bits symbols)

-- ---- steps 4 and 5

pub record DecisionBounds (r sb : ℕ) (y : ℤ) (ξ : ℕ) (entry : ℤ) : Type 0 where
  pub r_most : r ≤ symbol_limit
  pub scale_least : 1 ≤ sb
  pub scale_most : sb ≤ scale_limit
  pub y_small : nat_abs y < 2 ^ (output_unit - 1)
  pub ξ_least : 1 ≤ ξ
  pub ξ_most : ξ ≤ output_exponent_limit
  pub entry_is : is_entry r entry ≡ true

abbrev pub chosen : ℤ → ℤ → ℤ
chosen entry d = cond (eqb (nat_abs entry) 0) d entry

pub record DecisionIs (r sb : ℕ) (y : ℤ) (ξ : ℕ) (entry : ℤ) (j : Decision) : Type 0 where
  pub decision : j.decision ≡ decide r y ξ
  pub v : j.v ≡ chosen entry (decide r y ξ)
  pub z : j.z ≡ error (chosen entry (decide r y ξ)) y ξ (sb + bit_length (nat_abs (chosen entry (decide r y ξ))))
  pub theta : j.theta ≡ error_exponent ξ (sb + bit_length (nat_abs (chosen entry (decide r y ξ))))

-- ---- step 6

-- J of a filter with this scale and exponent
abbrev pub factor_of : ℕ → ℤ → ℕ → ℕ → ℕ → ℕ → ℤ
factor_of m z ψ θ scale exponent = cut (pos m *ℤ z) (step_unit + received_unit + ψ + scale - (exponent + θ))

-- the new weights of a filter whose data are raised by some bits more
abbrev pub updated : ℕ → ℤ → ℕ → ℕ → ℕ → ℕ → ℕ → List ℤ → List ℤ → List ℤ
updated m z ψ θ scale exponent more w a = adapt (raise (factor_of m z ψ θ scale exponent) (scale + more)) w a

pub record UpdateBounds (m : ℕ) (z : ℤ) (ψ θ scale exponent more : ℕ) (w a : List ℤ) : Type 0 where
  pub z_small : nat_abs z < 2 ^ output_unit
  pub ψ_most : ψ ≤ exponent_limit
  pub room : scale + more ≤ data_unit
  pub shift : exponent + θ ≤ step_unit + received_unit + ψ + scale
  pub shift_most : step_unit + received_unit + ψ + scale < exponent + θ + 64
  pub adaptable : Adaptable (factor_of m z ψ θ scale exponent) (data_unit - (scale + more)) w a

-- ---- step 7

pub record NormalisedIs (ψ : ℕ) (forward back : List ℤ) (ψ' : ℕ) (forward' back' : List ℤ) : Type 0 where
  pub exponent : ψ' ≡ normalised_exponent (outcome_of ψ forward back) ψ
  pub ahead : forward' ≡ normalised (outcome_of ψ forward back) forward
  pub behind : back' ≡ normalised (outcome_of ψ forward back) back

-- ---- steps 6 and 7

pub record ChangeBounds (m : ℕ) (e : BlockExponents) (ψ : ℕ) (h : Output) (j : Decision) (forward back samples symbols : List ℤ) : Type 0 where
  pub ν_most : h.nu ≤ data_exponent_limit
  pub ahead : UpdateBounds m j.z ψ j.theta e.s e.gamma30 0 forward samples
  pub behind : UpdateBounds m j.z ψ j.theta e.sb (h.nu + received_unit) (data_unit - h.nu) back symbols

-- the new weights before step 7
abbrev pub updated_forward : ℕ → BlockExponents → ℕ → Decision → List ℤ → List ℤ → List ℤ
updated_forward m e ψ j forward samples = updated m j.z ψ j.theta e.s e.gamma30 0 forward samples

abbrev pub updated_back : ℕ → BlockExponents → ℕ → ℕ → Decision → List ℤ → List ℤ → List ℤ
updated_back m e ν ψ j back symbols = updated m j.z ψ j.theta e.sb (ν + received_unit) (data_unit - ν) back symbols

abbrev pub ChangedIs : ℕ → BlockExponents → ℕ → Output → Decision → List ℤ → List ℤ → List ℤ → List ℤ → ℕ → List ℤ → List ℤ → Type 0
ChangedIs m e ψ h j forward back samples symbols ψ' forward' back' =
    NormalisedIs ψ (updated_forward m e ψ j forward samples) (updated_back m e h.nu ψ j back symbols) ψ' forward' back'

-- ---- the sample as a whole

abbrev pub result_of : Output → Decision → ℕ → SampleResult
result_of h j ψ = record { y = h.y; xi = h.xi; decision = j.decision; z = j.z; theta = j.theta; psi = ψ }

pub record Ready (k : Settings) (e : BlockExponents) (t : FilterState) (entry : ℤ) : Type 0 where
  pub fit : Fit k e.gamma30 t
  pub entry_is : is_entry k.r entry ≡ true
  pub forward_scale : e.s ≡ scale_forward k
  pub back_scale : e.sb ≡ scale_back k

-- symbols has the new symbol before the old ones
pub record SampleResultIs (k : Settings) (Γ : ℕ) (t : FilterState) (entry : ℤ) (r : SampleResult) (forward back symbols : List ℤ) : Type 0 where
  pub y : r.y ≡ Y k Γ t entry
  pub xi : r.xi ≡ ξ k Γ t entry
  pub decision_is : r.decision ≡ decision k Γ t entry
  pub z : r.z ≡ Z k Γ t entry
  pub theta : r.theta ≡ θ k Γ t entry
  pub psi : r.psi ≡ (next k Γ t entry).ψ
  pub forward_is : forward ≡ (next k Γ t entry).forward
  pub back_is : back ≡ (next k Γ t entry).back
  pub symbols_are : symbols ≡ v k Γ t entry ∷ t.symbols
