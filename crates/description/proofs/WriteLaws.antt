-- The cable of a description, and what is written for it.
use mathlib.Core.Path.{◌≡◌, refl, sym, ap, ap₂, ◌∙◌, subst}
use mathlib.Core.Bool.{Bool, true, false, cond}
use mathlib.Core.List.{List, ◌++◌}
use Prim.Native.Nat.{ℕ, ◌+◌, ◌*◌, ◌-◌, ◌≤◌, ◌<◌}
use native.Mathlib.Omega.{arith}
use native.Mathlib.Decide.{dec_lt}
use lib.Dec.{leb, eqb}
use lib.ListN.{length, take, drop, take-append-drop}
use lib.IntN.{ℤ}
use mir.Syntax.{w8, w16}
use mir.Val.{to_z}
use borrow.Author.Tests.{le-leb, leb-true, eq-eqb, ne_eqb, eqb-false}
use lib.Seq.{length-take-le}
use Rattle.laws.specs.Values.{values_length, values}
use Rattle.words.specs.Words.{byte_at, number_at}
use Rattle.steps.specs.Settings.{Settings}
use Rattle.trace_layout.specs.Trace.{trace_limit, settings_in}
use Rattle.state.specs.Sizes.{sizes_fit, admits, settings_number}
use Rattle.state.proofs.SizesLaws.{settings_refused, settings_number_lem}
use Rattle.trace_layout.specs.Trace as Trace
use Rattle.trace_text.specs.Calls.{TextAt}
use Rattle.cable_trace.specs.Cable.{Cable, sample_count, trace_length, cable_trace, cause, cable_number}
use Rattle.cable_trace.specs.Answers.{cable_of, Simulation}
use Rattle.std.specs.Prelude.{Result}
use Rattle.cable_trace.specs.Refusal.{number_in, cause_in}
use Rattle.cable_trace.specs.declared.refusal.CableRefusal.{CableRefusal}
use Rattle.cable_trace.proofs.CauseLaws.{too_long, cause_same, number_same, number_settings}
use Rattle.description.specs.Description.{description_header_length, response_in, symbols_in, training_in, symbols_place, well_described, cable_in, malformed_line, refusal_line, cable_output, described}
use Rattle.description.specs.Calls.{trace_end}

-- a part that begins at 0
pub from_zero : {A : Type 0} (l : List A) (n : ℕ) → take (n - 0) l ≡ take n l
from_zero l n = ap (λ (m : ℕ). take m l) same
  where
    same : n - 0 ≡ n
    same = omega arith

-- ---- the cable

module _ (t : List ℕ) where
  pub response_in_lem : (k : ℕ) → k ≡ response_in t → values (λ i. to_z w16 (number_at 2 t (description_header_length + 2 * i))) k ≡ (cable_in t).response
  unfolding cable_in
  response_in_lem k e = ap (values (λ i. to_z w16 (number_at 2 t (description_header_length + 2 * i)))) e

  pub symbols_in_lem : (start n : ℕ) → start ≡ symbols_place t → n ≡ symbols_in t → values (λ i. to_z w8 (byte_at t (start + i))) n ≡ (cable_in t).symbols
  unfolding cable_in
  symbols_in_lem start n e f = ap₂ (λ (s k : ℕ). values (λ i. to_z w8 (byte_at t (s + i))) k) e f

  pub samples_in_lem : sample_count (cable_in t) ≡ symbols_in t
  unfolding cable_in
  samples_in_lem = values_length _ (symbols_in t)

  pub cable_in_lem : (k : Settings) (h v : List ℤ) (n : ℕ) → k ≡ settings_in t → h ≡ (cable_in t).response → v ≡ (cable_in t).symbols → n ≡ training_in t → cable_of k h v n ≡ cable_in t
  unfolding cable_in
  cable_in_lem k h v n a b c d =
      ap₂ (λ (x : Settings) (y : List ℤ). cable_of x y v n) a b ∙ ap₂ (λ (x : List ℤ) (y : ℕ). cable_of (settings_in t) (cable_in t).response x y) c d

pub simulation_same : {c k : Cable} {before after : List ℕ} {a : Result (Unit {0}) CableRefusal} → c ≡ k → Simulation c before a after → Simulation k before a after
simulation_same {before = before} {after = after} {a = a} e s = subst (λ (x : Cable). Simulation x before a after) e s

-- ---- the line of refused settings has no cause

same_line : (s n x y : ℕ) → s ≡ n → refusal_line n x ≡ refusal_line n y → refusal_line s x ≡ refusal_line s y
same_line s n x y e h = ap (λ (m : ℕ). refusal_line m x) e ∙ h ∙ sym (ap (λ (m : ℕ). refusal_line m y) e)

settings_line : (k : Settings) (x y : ℕ) → (settings_number k ≡ 0 → ⊥) → refusal_line (settings_number k) x ≡ refusal_line (settings_number k) y
unfolding refusal_line
settings_line k x y f = go (sizes_fit k) (admits k) refl refl
  where
    go : (a b : Bool) → sizes_fit k ≡ a → admits k ≡ b → refusal_line (settings_number k) x ≡ refusal_line (settings_number k) y
    go false b h g = same_line (settings_number k) 1 x y (settings_refused k h) refl
    go true true h g = absurd (f (settings_number_lem k h ∙ ap (λ (d : Bool). cond d 0 2) g))
    go true false h g = same_line (settings_number k) 2 x y (settings_number_lem k h ∙ ap (λ (d : Bool). cond d 0 2) g) refl

-- ---- where a trace ends

end_cases : (b : Bool) (n : ℕ) → leb n trace_limit ≡ b → cond b n 0 ≤ trace_limit
end_cases true n h = leb-true n trace_limit h
end_cases false n h = omega arith

pub end_most : (n : ℕ) → trace_end n ≤ trace_limit
end_most n = end_cases (leb (Trace.trace_header_length + 4 * n) trace_limit) (Trace.trace_header_length + 4 * n) refl

-- ---- what is written, by the number

module _ (c : Cable) where
  pub accepted_output : cable_number c (trace_length c) ≡ 0 → cable_trace c ≡ cable_output c
  unfolding cable_output
  accepted_output h = simp (eq-eqb (cable_number c (trace_length c)) 0 h)

  pub refused_output : (cable_number c (trace_length c) ≡ 0 → ⊥) → refusal_line (cable_number c (trace_length c)) (cause c (trace_length c)) ≡ cable_output c
  unfolding cable_output
  refused_output h = simp (ne_eqb (cable_number c (trace_length c)) 0 h)

-- ---- and by what the simulator answered in the first `end` bytes

module _ (c : Cable) (end : ℕ) (h : end ≡ trace_end (sample_count c)) where
  -- where the trace would be too long, its output's length does not count
  rooms : (cable_number c end ≡ cable_number c (trace_length c)) × (cause c end ≡ cause c (trace_length c))
  rooms = go (dec_lt trace_limit (trace_length c))
    where
      go : Dec (trace_limit < trace_length c) → (cable_number c end ≡ cable_number c (trace_length c)) × (cause c end ≡ cause c (trace_length c))
      go (yes l) = (number_same c end (trace_length c) (too_long c l), cause_same c end (trace_length c) (too_long c l))
      go (no l) =
          let e : end ≡ trace_length c = h ∙ ap (λ (b : Bool). cond b (trace_length c) 0) (le-leb (trace_length c) trace_limit (omega arith)) in
          (ap (cable_number c) e, ap (cause c) e)

  module _ (before : List ℕ) (room : end ≤ length before) (a : Result (Unit {0}) CableRefusal) (last : List ℕ) (s : Simulation c (take (end) before) a last) where
    pub front_long : length (take (end) before) ≡ end
    front_long = length-take-le end before room

    number_is : number_in a ≡ cable_number c (trace_length c)
    number_is = s.output.number_is ∙ ap (cable_number c) front_long ∙ rooms.0

    module _ (z : number_in a ≡ 0) where
      trace_is : last ≡ cable_output c
      trace_is =
          s.output.contents ∙ ap (λ (b : Bool). cond b (cable_trace c) (take (end) before)) (eq-eqb _ 0 (sym s.output.number_is ∙ z))
          ∙ accepted_output c (sym number_is ∙ z)

      pub trace_written : length last ≡ length (take (end) before) → TextAt 0 (cable_output c) before end (last ++ drop (end) before)
      trace_written k =
          let e : end ≡ length (cable_output c) = sym front_long ∙ sym k ∙ ap length trace_is in
          let none : end ≡ 0 + length (cable_output c) = omega (arith, e) in
          record { end_is = e ∙ omega arith; contents = ap₂ (λ (l : List ℕ) (n : ℕ). l ++ drop n before) trace_is none }

    module _ (f : number_in a ≡ 0 → ⊥) where
      untouched : last ++ drop (end) before ≡ before
      untouched =
          ap (λ (l : List ℕ). l ++ drop (end) before) (s.output.contents ∙ ap (λ (b : Bool). cond b (cable_trace c) (take (end) before)) (ne_eqb _ 0 (λ z. f (s.output.number_is ∙ z))))
          ∙ take-append-drop (end) before

      pub over_untouched : {text : List ℕ} {count : ℕ} {after : List ℕ} → TextAt 0 text (last ++ drop (end) before) count after → TextAt 0 text before count after
      over_untouched {text} {count} {after} g = subst (λ (l : List ℕ). TextAt 0 text l count after) untouched g

      number_line : refusal_line (number_in a) (cause_in a) ≡ refusal_line (cable_number c (trace_length c)) (cause c (trace_length c))
      number_line = ap (λ (n : ℕ). refusal_line n (cause_in a)) number_is ∙ go (eqb (settings_number c.settings) 0) refl
        where
          go : (b : Bool) → eqb (settings_number c.settings) 0 ≡ b → refusal_line (cable_number c (trace_length c)) (cause_in a) ≡ refusal_line (cable_number c (trace_length c)) (cause c (trace_length c))
          go true e =
              ap (refusal_line (cable_number c (trace_length c)))
              (s.cause_is ∙ ap (λ (b : Bool). cond b (cause c (length (take (end) before))) 0) e ∙ ap (cause c) front_long ∙ rooms.1)
          go false e =
              let g = eqb-false (settings_number c.settings) 0 e in
              same_line (cable_number c (trace_length c)) (settings_number c.settings) (cause_in a) (cause c (trace_length c)) (number_settings c (trace_length c) g)
              (settings_line c.settings (cause_in a) (cause c (trace_length c)) g)

      pub line_is : refusal_line (number_in a) (cause_in a) ≡ cable_output c
      line_is = number_line ∙ refused_output c (λ z. f (number_is ∙ z))

-- ---- the answer, from what stands at the front of the bytes

module _ (t : List ℕ) where
  pub malformed_described : well_described t ≡ false → malformed_line ≡ described t
  unfolding described
  malformed_described h = simp h

  pub output_described : well_described t ≡ true → cable_output (cable_in t) ≡ described t
  unfolding described
  output_described h = simp h
