-- The causes of a 10, one after another, and what the simulator answers.
use mathlib.Core.Path.{◌≡◌, refl, sym, ap, ◌∙◌}
use mathlib.Core.Bool.{Bool, true, false, cond, ◌&&◌}
use mathlib.Core.List.{List}
use Prim.Native.Nat.{ℕ, ◌/◌, ◌%◌, ◌≤◌, ◌<◌}
use native.Mathlib.Omega.{arith}
use lib.Dec.{leb, eqb}
use lib.ListN.{length}
use borrow.Author.Tests.{le-leb, lt-leb, leb-true, eq-eqb, ne_eqb, eqb-true, eqb-false}
use Rattle.std.specs.Prelude.{Ok, Err}
use Rattle.laws.specs.Lists.{all}
use Rattle.laws.specs.Tests.{last_le}
use Rattle.laws.specs.Values.{values}
use Rattle.steps.specs.Settings.{is_symbol}
use Rattle.trace_layout.specs.Trace.{trace_limit}
use Rattle.state.specs.Sizes.{settings_number}
use Rattle.state.specs.Refusal as State
use Rattle.state.specs.declared.refusal.Refusal.{Refusal}
use Rattle.state.proofs.RefusalLaws.{number_least}
use Rattle.cable_trace.specs.Limits.{response_limit, count_limit}
use Rattle.cable_trace.specs.Calls.{sent_limit}
use Rattle.cable_trace.specs.Cable.{Cable, s, sample_count, trace_length, cable_trace, response_fits, blocks_fit, gain_available, length_cause, list_cause, cause, cable_number}
use Rattle.cable_trace.specs.Answers.{Simulation}
use Rattle.cable_trace.specs.Refusal.{number_of, cause_of}
use Rattle.cable_trace.specs.declared.refusal.CableRefusal.{CableRefusal}
use Rattle.cable_trace.specs.declared.refusal.CableRefusal.TheVariants.{Settings, Response, Blocks, Training, Length, Entry, Output, Gain}

-- ---- a length that is a cause

pub length_off : (c : Cable) (room n : ℕ) → n ≡ length_cause c → (n ≡ 0 → ⊥) → n ≡ list_cause c room
unfolding list_cause
length_off c room n e f = simp (ne_eqb (length_cause c) 0 (λ z. f (e ∙ z))) e

-- ---- by the lengths

module _ (c : Cable) where
  pub response_off : response_fits (length c.response) ≡ false → 1 ≡ length_cause c
  unfolding length_cause
  response_off a = simp a

  pub blocks_off : response_fits (length c.response) ≡ true → blocks_fit c.settings.N (sample_count c) ≡ false → 2 ≡ length_cause c
  unfolding length_cause
  blocks_off a b = simp (a, b)

  module _ (a : response_fits (length c.response) ≡ true) (b : blocks_fit c.settings.N (sample_count c) ≡ true) where
    pub training_off : sample_count c < c.training → 3 ≡ length_cause c
    unfolding length_cause
    training_off h = simp (a, b, lt-leb c.training (sample_count c) h)

    pub trace_off : c.training ≤ sample_count c → sent_limit < sample_count c → 4 ≡ length_cause c
    unfolding length_cause
    trace_off h k = simp (a, b, le-leb c.training (sample_count c) h, lt-leb (trace_length c) trace_limit (omega (arith, k)))

    pub lengths_fit_lem : c.training ≤ sample_count c → sample_count c ≤ sent_limit → 0 ≡ length_cause c
    unfolding length_cause
    lengths_fit_lem h k = simp (a, b, le-leb c.training (sample_count c) h, le-leb (trace_length c) trace_limit (omega (arith, k)))

  -- ---- by the lists

  module _ (room : ℕ) where
    module _ (a : length_cause c ≡ 0) where
      pub symbols_off : all (is_symbol c.settings.r) c.symbols ≡ false → 5 ≡ list_cause c room
      unfolding list_cause
      symbols_off b = simp (a, b)

      pub room_off : all (is_symbol c.settings.r) c.symbols ≡ true → (room ≡ trace_length c → ⊥) → 6 ≡ list_cause c room
      unfolding list_cause
      room_off b h = simp (a, b, ne_eqb room (trace_length c) h)

      pub lists_fit : all (is_symbol c.settings.r) c.symbols ≡ true → room ≡ trace_length c → 0 ≡ list_cause c room
      unfolding list_cause
      lists_fit b h = simp (a, b, eq-eqb room (trace_length c) h)

-- ---- where there is no cause

four : (a b d e : Bool) → ◌≡◌ {A = ℕ} (cond a (cond b (cond d (cond e 0 4) 3) 2) 1) 0 → (a ≡ true) × (b ≡ true) × (d ≡ true) × (e ≡ true)
four true true true true h = (refl, refl, refl, refl)
four true true true false h = absurd (eqb-false 4 0 refl h)
four true true false e h = absurd (eqb-false 3 0 refl h)
four true false d e h = absurd (eqb-false 2 0 refl h)
four false b d e h = absurd (eqb-false 1 0 refl h)

-- lists that fit
pub record Listed (c : Cable) (room : ℕ) : Type 0 where
  pub response_least : 1 ≤ length c.response
  pub response_most : length c.response ≤ response_limit
  pub whole : sample_count c % c.settings.N ≡ 0
  pub blocks_least : 1 ≤ sample_count c / c.settings.N
  pub blocks_most : sample_count c / c.settings.N ≤ count_limit
  pub training_most : c.training ≤ sample_count c
  pub few : sample_count c ≤ sent_limit
  pub symbols : all (is_symbol c.settings.r) c.symbols ≡ true
  pub room_is : room ≡ trace_length c

module _ (c : Cable) where
  length_tests : length_cause c ≡ 0 → (response_fits (length c.response) ≡ true) × (blocks_fit c.settings.N (sample_count c) ≡ true) × (leb c.training (sample_count c) ≡ true) × (leb (trace_length c) trace_limit ≡ true)
  unfolding length_cause
  length_tests h = four _ _ _ _ h

  pub lengths_few : length_cause c ≡ 0 → sample_count c ≤ sent_limit
  lengths_few h = omega (arith, leb-true (trace_length c) trace_limit (length_tests h).3)

module _ (c : Cable) (room : ℕ) where
  list_tests : list_cause c room ≡ 0 → (length_cause c ≡ 0) × (all (is_symbol c.settings.r) c.symbols ≡ true) × (room ≡ trace_length c)
  unfolding list_cause
  list_tests h = go (eqb (length_cause c) 0) (all (is_symbol c.settings.r) c.symbols) (eqb room (trace_length c)) refl refl refl h
    where
      go : (a b d : Bool) → eqb (length_cause c) 0 ≡ a → all (is_symbol c.settings.r) c.symbols ≡ b → eqb room (trace_length c) ≡ d → cond a (cond b (cond d 0 6) 5) (length_cause c) ≡ 0 →
          (length_cause c ≡ 0) × (all (is_symbol c.settings.r) c.symbols ≡ true) × (room ≡ trace_length c)
      go true true true x y z e = (eqb-true (length_cause c) 0 x, y, eqb-true room (trace_length c) z)
      go true true false x y z e = absurd (eqb-false 6 0 refl e)
      go true false d x y z e = absurd (eqb-false 5 0 refl e)
      go false b d x y z e = absurd (eqb-false (length_cause c) 0 x e)

  pub listed : list_cause c room ≡ 0 → Listed c room
  listed h =
      let l = list_tests h in
      let t = length_tests c l.0 in
      let r = last_le (leb 1 (length c.response)) (length c.response) response_limit t.0 in
      let n = sample_count c / c.settings.N in
      let b = last_le (eqb (sample_count c % c.settings.N) 0 && leb 1 n) n count_limit t.1 in
      let w = last_le (eqb (sample_count c % c.settings.N) 0) 1 n b.0 in
      record {
        response_least = leb-true 1 (length c.response) r.0;
        response_most = r.1;
        whole = eqb-true (sample_count c % c.settings.N) 0 w.0;
        blocks_least = w.1;
        blocks_most = b.1;
        training_most = leb-true c.training (sample_count c) t.2;
        few = lengths_few c l.0;
        symbols = l.1;
        room_is = l.2;
      }

  pub cause_tests : cause c room ≡ 0 → (list_cause c room ≡ 0) × (all (gain_available c.settings) (values (s c) (sample_count c)) ≡ true)
  unfolding cause
  cause_tests h = go (eqb (list_cause c room) 0) (all (gain_available c.settings) (values (s c) (sample_count c))) refl refl h
    where
      go : (a b : Bool) → eqb (list_cause c room) 0 ≡ a → all (gain_available c.settings) (values (s c) (sample_count c)) ≡ b → cond a (cond b 0 7) (list_cause c room) ≡ 0 →
          (list_cause c room ≡ 0) × (all (gain_available c.settings) (values (s c) (sample_count c)) ≡ true)
      go true true x y e = (eqb-true (list_cause c room) 0 x, y)
      go true false x y e = absurd (eqb-false 7 0 refl e)
      go false b x y e = absurd (eqb-false (list_cause c room) 0 x e)

  pub number_tests : cable_number c room ≡ 0 → (settings_number c.settings ≡ 0) × (cause c room ≡ 0)
  unfolding cable_number
  number_tests h = go (eqb (settings_number c.settings) 0) (eqb (cause c room) 0) refl refl h
    where
      go : (a b : Bool) → eqb (settings_number c.settings) 0 ≡ a → eqb (cause c room) 0 ≡ b → cond a (cond b 0 10) (settings_number c.settings) ≡ 0 →
          (settings_number c.settings ≡ 0) × (cause c room ≡ 0)
      go true true x y e = (eqb-true (settings_number c.settings) 0 x, eqb-true (cause c room) 0 y)
      go true false x y e = absurd (eqb-false 10 0 refl e)
      go false b x y e = absurd (eqb-false (settings_number c.settings) 0 x e)

-- ---- the answers

-- no refusal has the number 0
pub number_some : (x : CableRefusal) → number_of x ≡ 0 → ⊥
number_some (Settings r) z = absurd (omega (arith, z, number_least r))
number_some Response z = absurd (omega (arith, z))
number_some Blocks z = absurd (omega (arith, z))
number_some Training z = absurd (omega (arith, z))
number_some Length z = absurd (omega (arith, z))
number_some Entry z = absurd (omega (arith, z))
number_some Output z = absurd (omega (arith, z))
number_some Gain z = absurd (omega (arith, z))

-- so one of the lists has a cause
pub cause_some : (x : CableRefusal) → number_of x ≡ cond (eqb (cause_of x) 0) 0 10 → cause_of x ≡ 0 → ⊥
cause_some x e z = number_some x (e ∙ simp (eq-eqb (cause_of x) 0 z))

module _ (c : Cable) (before : List ℕ) where
  refused : (x : CableRefusal) → number_of x ≡ cable_number c (length before) → cause_of x ≡ cond (eqb (settings_number c.settings) 0) (cause c (length before)) 0 → Simulation c before (Err x) before
  refused x e h = record {
    output = record { number_is = e; contents = ap (λ (b : Bool). cond b (cable_trace c) before) (sym (ne_eqb (cable_number c (length before)) 0 (λ z. number_some x (e ∙ z)))) };
    cause_is = h;
  }

  pub settings_off : (r : Refusal) → State.number_of r ≡ settings_number c.settings → Simulation c before (Err (Settings r)) before
  unfolding cable_number
  settings_off r e = let t = ne_eqb (settings_number c.settings) 0 (λ z. number_some (Settings r) (e ∙ z)) in refused (Settings r) (simp t e) (simp t)

  module _ (a : settings_number c.settings ≡ 0) where
    pub lists_off : (x : CableRefusal) → number_of x ≡ cond (eqb (cause_of x) 0) 0 10 → cause_of x ≡ list_cause c (length before) → Simulation c before (Err x) before
    unfolding cable_number cause
    lists_off x n e =
        let some : list_cause c (length before) ≡ 0 → ⊥ = λ z. cause_some x n (e ∙ z) in
        let t = ne_eqb (list_cause c (length before)) 0 some in
        refused x (n ∙ simp (a, e, t)) (simp (a, t) e)

    module _ (b : list_cause c (length before) ≡ 0) where
      pub made_fit : (after : List ℕ) → all (gain_available c.settings) (values (s c) (sample_count c)) ≡ true → after ≡ cable_trace c → Simulation c before (Ok tt) after
      unfolding cable_number cause
      made_fit after g t = record { output = record { number_is = simp (a, b, g); contents = simp (a, b, g) t }; cause_is = simp (a, b, g) }

      pub made_off : all (gain_available c.settings) (values (s c) (sample_count c)) ≡ false → Simulation c before (Err Gain) before
      unfolding cable_number cause
      made_off g = record { output = record { number_is = simp (a, b, g); contents = simp (a, b, g) }; cause_is = simp (a, b, g) }

-- ---- where a length is a cause, the output's length does not count

pub too_long : (c : Cable) → trace_limit < trace_length c → length_cause c ≡ 0 → ⊥
too_long c h z = absurd (omega (arith, h, lengths_few c z))

module _ (c : Cable) (a b : ℕ) (h : length_cause c ≡ 0 → ⊥) where
  pub cause_same : cause c a ≡ cause c b
  unfolding cause list_cause
  cause_same = simp (ne_eqb (length_cause c) 0 h)

  pub number_same : cable_number c a ≡ cable_number c b
  unfolding cable_number
  number_same = ap (λ (k : ℕ). cond (eqb (settings_number c.settings) 0) (cond (eqb k 0) 0 10) (settings_number c.settings)) cause_same

-- ---- settings that are turned down

pub number_settings : (c : Cable) (room : ℕ) → (settings_number c.settings ≡ 0 → ⊥) → cable_number c room ≡ settings_number c.settings
unfolding cable_number
number_settings c room h = simp (ne_eqb (settings_number c.settings) 0 h)
