-- A state that passes the tests is sound, and what set-up returns passes them.
use mathlib.Core.Path.{◌≡◌, refl, sym, ap, ap₂, ◌∙◌}
use mathlib.Core.Bool.{Bool, true, false, cond, ◌&&◌}
use mathlib.Core.List.{List}
use Prim.Native.Nat.{ℕ, ◌+◌, ◌*◌, ◌-◌, ◌^◌, ◌≤◌}
use native.Mathlib.Omega.{arith}
use native.Mathlib.Nat.{le_refl, sub-le}
use lib.Dec.{eqb}
use lib.ListN.{length, take, drop, replicate, length-drop, length-replicate, get_or-replicate}
use lib.Seq.{length-take-le, take-add}
use lib.IntN.{ℤ, pos}
use borrow.Author.Tests.{leb-true, le-leb, ltb-true, lt-ltb, eqb-true, eqb-false, ne_eqb}
use Rattle.laws.specs.Lists.{all, and_left, and_right}
use Rattle.laws.specs.Tests.{both, last_le, each_tested, each_parts, all_take, all_drop, all_replicate}
use Rattle.steps.specs.Limits.{data_unit, exponent_limit, halving_limit, length_limit, slots}
use Rattle.steps.specs.Settings.{Settings, scale_forward, is_entry}
use Rattle.steps.specs.Sound.{Within}
use Rattle.steps.specs.Fir.{Small, is_below}
use Rattle.steps.proofs.LargestLaws.{all_below_lem}
use Rattle.block.specs.Sound.{Sound}
use Rattle.state.specs.Sizes.{sizes_fit, admits, settings_number}
use Rattle.state.specs.State.{settings, memory, taps, samples, filler, symbols, is_zero, is_stored, sound_exponents, sound_weights, sound_past, is_sound, fresh, refused_settings, refused}
use Rattle.state.specs.Answers.{set_up_state, examined}
use Rattle.state.specs.declared.equaliser.Equaliser.{Equaliser}
use Rattle.state.proofs.SizesLaws.{fit_within, admits_admitted, settings_pass, settings_tests}

-- ---- the three tests of a state

pub sound_tests : (e : Equaliser) → is_sound e ≡ true → (sound_exponents e ≡ true) × (sound_weights e ≡ true) × (sound_past e ≡ true)
unfolding is_sound
sound_tests e h =
    let f = and_left (sound_exponents e && sound_weights e) (sound_past e) h in (
      and_left (sound_exponents e) (sound_weights e) f,
      and_right (sound_exponents e) (sound_weights e) f,
      and_right (sound_exponents e && sound_weights e) (sound_past e) h,
    )

-- the four tests of the data
pub past_tests : (e : Equaliser) → sound_past e ≡ true →
    (all (is_stored (scale_forward (settings e)) e.b e.bmax) (samples e) ≡ true) × (is_zero (filler e) ≡ true) × (all (is_entry e.r) (symbols e) ≡ true) × (all is_zero (drop (taps e) e.past) ≡ true)
past_tests e h =
    let stored = all (is_stored (scale_forward (settings e)) e.b e.bmax) (samples e) in
    let entries = all (is_entry e.r) (symbols e) in
    let spare = all is_zero (drop (taps e) e.past) in
    let three = and_left (stored && is_zero (filler e) && entries) spare h in
    let two = and_left (stored && is_zero (filler e)) entries three in (
      and_left stored (is_zero (filler e)) two,
      and_right stored (is_zero (filler e)) two,
      and_right (stored && is_zero (filler e)) entries three,
      and_right (stored && is_zero (filler e) && entries) spare h,
    )

-- ψ, b, and B with L
pub exponents_bound : (e : Equaliser) → sound_exponents e ≡ true → (e.psi ≤ exponent_limit) × (e.b ≤ e.bmax) × (e.bmax + e.l ≤ length_limit)
exponents_bound e h =
    let bmax = last_le _ (e.bmax + e.l) length_limit h in
    let b = last_le _ e.b e.bmax bmax.0 in
    (leb-true e.psi exponent_limit b.0, b.1, bmax.1)

-- ---- what is sound

module _ (e : Equaliser) (sizes : sizes_fit (settings e) ≡ true) (weights : length e.weights ≡ slots) (past : length e.past ≡ slots) where
  within : Within (settings e)
  within = fit_within (settings e) sizes

  front_long : (i : ℕ) (xs : List ℤ) → length xs ≡ slots → i ≤ e.p → length (take i xs) ≡ i
  front_long i xs l h = length-take-le i xs (omega (arith, within.p_most))

  back_long : (xs : List ℤ) → length xs ≡ slots → length (take e.q (drop e.p xs)) ≡ e.q
  back_long xs l = length-take-le e.q (drop e.p xs) (omega (arith, length-drop e.p xs, within.p_most, within.q_most))

  pub sound_state : admits (settings e) ≡ true → is_sound e ≡ true → Sound (settings e) (memory e)
  sound_state admitted sound =
      let t = sound_tests e sound in
      let x = exponents_bound e t.0 in
      let w = each_parts Small (take e.p e.weights) (take e.q (drop e.p e.weights))
      (rw (take-add e.p e.q e.weights) at (all_below_lem halving_limit (take (taps e) e.weights) (and_left _ _ t.1))) in
      let d = past_tests e t.2 in
      record {
        within = within;
        admitted = admits_admitted (settings e) admitted;
        forward_long = front_long e.p e.weights weights (le_refl e.p);
        back_long = back_long e.weights weights;
        samples_long = front_long (e.p - 1) e.past past (sub-le e.p 1);
        symbols_long = back_long e.past past;
        forward_small = w.0;
        back_small = w.1;
        samples_small = each_tested _ _ (λ a h. ltb-true _ _ h) (samples e) d.0;
        symbols_are = each_tested _ _ (λ v h. h) (symbols e) d.2;
        ψ_most = x.0;
        b_most = x.1;
        B_most = x.2;
      }

-- ---- the number of an examined state

both_pass : (n : ℕ) (t c : Bool) → eqb n 0 ≡ t → cond t (cond c 0 9) n ≡ 0 → (n ≡ 0) × (c ≡ true)
both_pass n true true f h = (eqb-true n 0 f, refl)
both_pass n true false f h = absurd (omega arith)
both_pass n false c f h = absurd (eqb-false n 0 f h)

pub examined_tests : (e : Equaliser) → examined e ≡ 0 → (sizes_fit (settings e) ≡ true) × (admits (settings e) ≡ true) × (is_sound e ≡ true)
unfolding examined
examined_tests e h =
    let t = both_pass (settings_number (settings e)) (eqb (settings_number (settings e)) 0) (is_sound e) refl h in
    let k = settings_tests (settings e) t.0 in
    (k.0, k.1, t.1)

pub tests_examined : (e : Equaliser) → sizes_fit (settings e) ≡ true → admits (settings e) ≡ true → is_sound e ≡ true → examined e ≡ 0
unfolding examined
tests_examined e f a s = rw (settings_pass (settings e) f a, s)

-- from the number of its settings, and from its soundness
pub examined_settings : (e : Equaliser) (n : ℕ) → n ≡ settings_number (settings e) → (n ≡ 0 → ⊥) → n ≡ examined e
unfolding examined
examined_settings e n q h = simp (ne_eqb (settings_number (settings e)) 0 (λ z. h (q ∙ z))) q

-- of two states with the same settings that are both sound
pub examined_same : (e e' : Equaliser) → settings e' ≡ settings e → is_sound e ≡ true → is_sound e' ≡ true → examined e' ≡ examined e
unfolding examined
examined_same e e' k s s' = ap₂ (λ (c : Settings) (t : Bool). cond (eqb (settings_number c) 0) (cond t 0 9) (settings_number c)) k (s' ∙ sym s)

pub examined_state : (e : Equaliser) → sizes_fit (settings e) ≡ true → admits (settings e) ≡ true → cond (is_sound e) 0 9 ≡ examined e
unfolding examined
examined_state e f a = rw (settings_pass (settings e) f a)

-- a state that no operation turns down, whose arrays have all their slots
pub record Accepted (e : Equaliser) : Type 0 where
  pub weights_long : length e.weights ≡ slots
  pub past_long : length e.past ≡ slots
  pub number : examined e ≡ 0

pub accepted_sound : {e : Equaliser} → Accepted e → Sound (settings e) (memory e)
accepted_sound {e} a = let t = examined_tests e a.number in sound_state e t.0 a.weights_long a.past_long t.1 t.2

-- ---- a fresh state

abbrev zeros : List ℤ
zeros = replicate slots (pos 0)

-- a test that 0 passes
module _ (p : ℤ → Bool) (e : p (pos 0) ≡ true) where
  zeros_pass : all p zeros ≡ true
  zeros_pass = all_replicate p slots (pos 0) e

  front_passes : (i : ℕ) → all p (take i zeros) ≡ true
  front_passes i = all_take p i zeros zeros_pass

  rest_passes : (i : ℕ) → all p (drop i zeros) ≡ true
  rest_passes i = all_drop p i zeros zeros_pass

fresh_exponents : (k : Settings) → Within k → sound_exponents (fresh k) ≡ true
unfolding fresh
fresh_exponents k w = le-leb (0 + k.L) length_limit (omega (arith, w.L_most))

fresh_weights : (k : Settings) → sound_weights (fresh k) ≡ true
unfolding fresh
fresh_weights k = both _ _ (front_passes (is_below halving_limit) refl (k.p + k.q)) (rest_passes is_zero refl (k.p + k.q))

fresh_past : (k : Settings) → Within k → sound_past (fresh k) ≡ true
unfolding fresh
fresh_past k w =
    both _ _
    (both _ _
    (both _ _ (front_passes (is_stored (scale_forward k) 0 0) (lt-ltb (0 * 2 ^ (0 + scale_forward k)) (2 ^ data_unit) (omega arith)) (k.p - 1))
    (ap is_zero (get_or-replicate slots (k.p - 1) (pos 0) (pos 0) (omega (arith, w.p_most)))))
    (all_take (is_entry k.r) k.q (drop k.p zeros) (rest_passes (is_entry k.r) refl k.p)))
    (rest_passes is_zero refl (k.p + k.q))

fresh_sound : (k : Settings) → Within k → is_sound (fresh k) ≡ true
unfolding is_sound
fresh_sound k w = both _ _ (both _ _ (fresh_exponents k w) (fresh_weights k)) (fresh_past k w)

fresh_accepted : (k : Settings) → sizes_fit k ≡ true → admits k ≡ true → Accepted (fresh k)
unfolding fresh
fresh_accepted k f a = record {
  weights_long = length-replicate slots (pos 0);
  past_long = length-replicate slots (pos 0);
  number = tests_examined (fresh k) f a (fresh_sound k (fit_within k f));
}

pub refused_accepted : Accepted refused
unfolding refused
refused_accepted = fresh_accepted refused_settings refl refl

-- whatever set-up is given
pub set_up_accepted : (k : Settings) → Accepted (set_up_state k)
set_up_accepted k = go (eqb (settings_number k) 0) refl
  where
    go : (b : Bool) → eqb (settings_number k) 0 ≡ b → Accepted (cond b (fresh k) refused)
    go true e = let t = settings_tests k (eqb-true (settings_number k) 0 e) in fresh_accepted k t.0 t.1
    go false e = refused_accepted
