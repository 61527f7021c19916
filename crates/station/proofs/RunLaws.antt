-- Running a block on the parts of a state, and the state that it leaves.
use mathlib.Core.Path.{◌≡◌, refl, sym, ap, ap₂, ◌∙◌, subst}
use mathlib.Core.Bool.{Bool, true, false, cond}
use mathlib.Core.List.{List, [], ◌∷◌, ◌++◌}
use Prim.Native.Nat.{ℕ, suc, ◌+◌, ◌-◌, ◌≤◌, ◌<◌}
use native.Mathlib.Omega.{arith}
use native.Mathlib.Nat.{le_refl, sub-zero, add-sub_cancel, add-sub_cancel_left, min-le_right}
use lib.ListN.{length, take, drop, set, replicate, length-append, length-replicate, length-drop, length-take, drop_of_length-le}
use lib.Seq.{length-take-le, take-suc, set_split, take-append_seam, take_at, append_snoc}
use lib.IntN.{ℤ, pos}
use borrow.Author.Tests.{eqb-true, le-leb, lt-leb}
use Rattle.std.specs.Prelude.{Ok, Err}
use Rattle.laws.specs.Integers.{abs_zero}
use Rattle.steps.specs.Limits.{block_limit, exponent_limit, tap_limit, slots}
use Rattle.steps.specs.Settings.{Settings}
use Rattle.filter.specs.Calls.{filter_state_of}
use Rattle.filter.specs.Sound.{Fit}
use Rattle.block.specs.Block.{Block, Memory, Outputs, Γ, after, next_memory, block_outputs, outputs_of}
use Rattle.block.specs.Sound.{Sound}
use Rattle.block.specs.Calls.{memory_of, OutputsLong, Runnable, BlockResultIs}
use Rattle.block.specs.declared.run.BlockResult.{BlockResult}
use Rattle.block.proofs.BlockCount.{count_all}
use Rattle.block.proofs.BlockSound.{fit_after, next_memory_sound}
use Rattle.block.proofs.BlockMemory.{ψ_fits_is, next_memory_is, block_long, block_all}
use Rattle.state.specs.Refusal.{number_of, answer_with}
use Rattle.state.specs.State.{settings, memory, taps, forward, back, samples, filler, symbols, padded, state_of}
use Rattle.state.specs.declared.equaliser.Answer.{Answer}
use Rattle.state.specs.declared.equaliser.Equaliser.{Equaliser}
use Rattle.state.specs.declared.refusal.Refusal.{Refusal}
use Rattle.state.proofs.RefusalLaws.{number_least}
use Rattle.state.proofs.SizesLaws.{fit_within}
use Rattle.state.proofs.SoundLaws.{examined_tests, sound_tests, past_tests}
use Rattle.state.proofs.PartsLaws.{state_of_parts}
use Rattle.checks.specs.Calls.{Checked}
use Rattle.checks.specs.Checks.{Buffers, check_number}
use Rattle.checks.proofs.CheckLaws.{check_tests}
use Rattle.station.specs.Answers.{Run}
use Rattle.station.specs.Calls.{ResultBytes, next_of, ψFitsBlock, RunChecked, outputs_or}
use Rattle.station.proofs.AnswerLaws.{refused, number_is, answered}

-- ---- parts of a list

-- a whole part with a start lies within the list
part_room : (p q : ℕ) (l : List ℤ) → 1 ≤ q → length (take q (drop p l)) ≡ q → p + q ≤ length l
part_room p q l h e = omega (arith, length-take q (drop p l), min-le_right q (length (drop p l)), length-drop p l)

-- from the front, and from place p on
pub first_part : {A : Type 0} (n : ℕ) (l : List A) → take (n - 0) l ≡ take n l
first_part n l = ap (λ (m : ℕ). take m l) (sub-zero n)

pub middle_part : (p q : ℕ) (l : List ℤ) → take (p + q - p) (drop p l) ≡ take q (drop p l)
middle_part p q l = ap (λ (n : ℕ). take n (drop p l)) (add-sub_cancel_left p q)

-- a list that is copied to the front of an array
pub copied_part : {l r part : List ℤ} (rest : List ℤ) (n : ℕ) → part ≡ l → r ≡ part ++ rest → length l ≡ n → take (n - 0) r ≡ l
copied_part {l = l} {r = r} rest n p e h = first_part n r ∙ ap (take n) (e ∙ ap (λ (t : List ℤ). t ++ rest) p) ∙ take_at l rest n h

abbrev fronted : List ℤ → List ℤ
fronted l = l ++ replicate (tap_limit - length l) (pos 0)

front : (n : ℕ) {r part : List ℤ} (l : List ℤ) → part ≡ l → r ≡ fronted part → length l ≡ n → take n r ≡ l
front n {r = r} l p e h = sym (first_part n r) ∙ copied_part _ n p e h

-- all but the last element
but_last : (l : List ℤ) (z : ℤ) → take (length (l ++ (z ∷ [])) - 1) (l ++ (z ∷ [])) ≡ l
but_last l z = rw (length-append, add-sub_cancel, take-append_seam) refl

-- another last element
new_last : (l : List ℤ) (z : ℤ) (n : ℕ) → length l ≡ n → 1 ≤ n → set l (length l - 1) z ≡ take (n - 1) l ++ (z ∷ [])
new_last l z n e h =
    set_split l (length l - 1) z (omega arith)
    ∙ ap₂ (λ (i : ℕ) (r : List ℤ). take i l ++ z ∷ r) (ap (λ (m : ℕ). m - 1) e) (drop_of_length-le l {i = suc (length l - 1)} (omega arith))

-- ---- the parts of a state that passed the checks

-- its lists are as long as they ask
module _ (e : Equaliser) (i : Block) (h : Checked e i) where
  pub weights_room : taps e ≤ length e.weights
  weights_room = part_room e.p e.q e.weights h.sound.within.q_least h.sound.back_long

  pub past_room : taps e ≤ length e.past
  past_room = part_room e.p e.q e.past h.sound.within.q_least h.sound.symbols_long

  pub weights_first : e.p ≤ length e.weights
  weights_first = omega (arith, weights_room)

  pub past_first : e.p ≤ length e.past
  past_first = omega (arith, past_room)

  pub past_long : length (take e.p e.past) ≡ e.p
  past_long = length-take-le e.p e.past past_first

  -- the window: the samples and the filler
  pub window_is : take e.p e.past ≡ samples e ++ (pos 0 ∷ [])
  window_is =
      let one : e.p ≡ suc (e.p - 1) = omega (arith, h.sound.within.p_least) in
      ap (λ (n : ℕ). take n e.past) one
      ∙ take-suc e.past (e.p - 1) (pos 0) (omega (arith, past_room, h.sound.within.p_least))
      ∙ ap (λ (z : ℤ). samples e ++ (z ∷ [])) (abs_zero (filler e) (eqb-true _ 0 (past_tests e (sound_tests e h.sound_state).2).1))

-- ---- a run on these parts

module _ {e : Equaliser} {i : Block} {ahead behind window recent : List ℤ} (c : Checked e i) (forward_is : ahead ≡ forward e) (back_is : behind ≡ back e)
    (window_as : window ≡ samples e ++ (pos 0 ∷ [])) (symbols_are : recent ≡ symbols e) where
  window_samples : take (length window - 1) window ≡ samples e
  window_samples = ap (λ (l : List ℤ). take (length l - 1) l) window_as ∙ but_last (samples e) (pos 0)

  memory_is : memory_of ahead behind window recent e.psi e.b e.bmax ≡ memory e
  memory_is = rw (forward_is, back_is, window_samples, symbols_are)

  module _ {k : Settings} (q : k ≡ settings e) where
    pub runnable : {l : Outputs} → OutputsLong (settings e) l → Runnable k (memory_of ahead behind window recent e.psi e.b e.bmax) i window l
    runnable o = rw (q, memory_is) (record { sound = c.sound; acceptable = c.acceptable; window_is = window_as; outputs_long = o })

    -- what it leaves, on the memory of the state
    pub result_is : {l l' : Outputs} {r : BlockResult} {forward back samples symbols : List ℤ} →
        BlockResultIs k (memory_of ahead behind window recent e.psi e.b e.bmax) i l r forward back samples symbols l' →
        BlockResultIs (settings e) (memory e) i l r forward back samples symbols l'
    result_is p = rw (q, memory_is) at p

-- ---- what a run leaves

module _ {e : Equaliser} {i : Block} {l : Outputs} {r : BlockResult} {ahead behind window recent : List ℤ} {l' : Outputs} (c : Checked e i)
    (h : BlockResultIs (settings e) (memory e) i l r ahead behind window recent l') where
  -- ψ passed its limit
  pub stopped : exponent_limit < r.psi → RunChecked e i l (record { number = 6; state = e }) l'
  stopped m =
      let g = ψ_fits_is h c.sound ∙ lt-leb _ _ m in
      record { number = ap (λ (b : Bool). cond b 0 6) (sym g); state = ap (λ (b : Bool). cond b (state_of (settings e) (next_memory (settings e) (memory e) i)) e) (sym g); outputs_are = h.outputs_are }

  -- ψ kept its limit
  module _ (m : r.psi ≤ exponent_limit) where
    ψ_fits_on : ψFitsBlock e i ≡ true
    ψ_fits_on = ψ_fits_is h c.sound ∙ le-leb _ _ m

    fit : Fit (settings e) (Γ (settings e) (memory e) i) (filter_state_of ahead behind window recent r.psi)
    fit =
        subst (Fit (settings e) (Γ (settings e) (memory e) i)) (sym (h.filter_state_is ∙ ap (after (settings e) (memory e) i) (count_all (settings e) (memory e) i e.n ψ_fits_on)))
        (fit_after (settings e) (memory e) i c.sound c.acceptable e.n (le_refl e.n) ψ_fits_on)

    abbrev next_memory_lem : Memory
    next_memory_lem = record { forward = ahead; back = behind; samples = take (e.p - 1) window; symbols = recent; ψ = r.psi; b = r.b; B = r.bmax }

    -- its numbers fit their bytes
    pub result_bytes : ResultBytes r
    result_bytes =
        let s = subst (Sound (settings e)) (next_memory_is h ψ_fits_on) (next_memory_sound (settings e) (memory e) i c.sound c.acceptable ψ_fits_on) in
        record { psi = omega arith; b = omega (arith, s.b_most, s.B_most); bmax = omega (arith, s.B_most) }

    -- another last element of the window
    past_is : length window ≡ e.p → set window (length window - 1) (pos 0) ++ recent ≡ take (e.p - 1) window ++ pos 0 ∷ recent
    past_is n = ap (λ (t : List ℤ). t ++ recent) (new_last window (pos 0) e.p n c.sound.within.p_least) ∙ append_snoc (take (e.p - 1) window) (pos 0) recent

    pub finished : {s : Equaliser} {ws ds : List ℤ} → s ≡ next_of e r ws ds → ws ≡ padded (ahead ++ behind) → ds ≡ padded (set window (length window - 1) (pos 0) ++ recent) →
        length window ≡ e.p → RunChecked e i l (record { number = 0; state = s }) l'
    finished {ws = ws} {ds = ds} es ew ed n = record {
      number = ap (λ (b : Bool). cond b 0 6) (sym ψ_fits_on);
      state = es ∙ state_of_parts (settings e) next_memory_lem ws ds ew (ed ∙ ap padded (past_is n)) ∙ ap (state_of (settings e)) (sym (next_memory_is h ψ_fits_on))
          ∙ ap (λ (b : Bool). cond b (state_of (settings e) (next_memory (settings e) (memory e) i)) e) (sym ψ_fits_on);
      outputs_are = h.outputs_are;
    }

-- ---- a block is run on these parts as they stand in arrays

module _ {e : Equaliser} {i : Block} {k : Settings} {p q ψ b B : ℕ} {ahead behind window recent : List ℤ} (c : Checked e i) (k_is : k ≡ settings e) (p_is : p ≡ e.p) (q_is : q ≡ e.q)
    (ahead_is : ahead ≡ fronted (take p e.weights)) (behind_is : behind ≡ fronted (take (p + q - p) (drop p e.weights)))
    (window_as : window ≡ fronted (take p e.past)) (recent_is : recent ≡ fronted (take (p + q - p) (drop p e.past)))
    (ψ_is : ψ ≡ e.psi) (b_is : b ≡ e.b) (B_is : B ≡ e.bmax) where
  lent_forward : take p ahead ≡ forward e
  lent_forward = rw p_is (front e.p (forward e) refl (rw p_is at ahead_is) c.sound.forward_long)

  lent_back : take q behind ≡ back e
  lent_back = rw q_is (front e.q (back e) (middle_part e.p e.q e.weights) (rw (p_is, q_is) at behind_is) c.sound.back_long)

  lent_window : take p window ≡ samples e ++ (pos 0 ∷ [])
  lent_window = rw p_is (front e.p (take e.p e.past) refl (rw p_is at window_as) (past_long e i c) ∙ window_is e i c)

  lent_symbols : take q recent ≡ symbols e
  lent_symbols = rw q_is (front e.q (symbols e) (middle_part e.p e.q e.past) (rw (p_is, q_is) at recent_is) c.sound.symbols_long)

  pub lent_runnable : {l : Outputs} → OutputsLong (settings e) l → Runnable k (memory_of (take p ahead) (take q behind) (take p window) (take q recent) ψ b B) i (take p window) l
  lent_runnable o = rw (ψ_is, b_is, B_is) (runnable c lent_forward lent_back lent_window lent_symbols k_is o)

  -- what the run leaves
  module _ {l l' : Outputs} {r : BlockResult} {ahead' behind' window' recent' : List ℤ}
      (h : BlockResultIs k (memory_of (take p ahead) (take q behind) (take p window) (take q recent) ψ b B) i l r ahead' behind' window' recent' l') where
    left : BlockResultIs (settings e) (memory e) i l r ahead' behind' window' recent' l'
    left = result_is c lent_forward lent_back lent_window lent_symbols k_is (rw (ψ_is, b_is, B_is) at h)

    -- ψ passed its limit
    pub lent_stopped : exponent_limit < r.psi → RunChecked e i l (record { number = 6; state = e }) l'
    lent_stopped m = stopped c left m

    -- ψ kept its limit
    module _ (m : r.psi ≤ exponent_limit) where
      pub samples_long : length window' ≡ e.p
      samples_long = (fit c left m).samples_long

      pub symbols_long : length recent' ≡ e.q
      symbols_long = (fit c left m).symbols_long

      -- its weights have room in a state
      pub joined_room : length ahead' + length behind' ≤ slots
      joined_room = let f = fit c left m in omega (arith, f.forward_long, f.back_long, c.sound.within.p_most, c.sound.within.q_most)

      -- its numbers fit their bytes
      pub lent_bytes : ResultBytes r
      lent_bytes = result_bytes c left m

      -- and it is the next state
      pub lent_finished : {s : Equaliser} {ws ds : List ℤ} → s ≡ next_of e r ws ds → ws ≡ padded (ahead' ++ behind') → ds ≡ padded (set window' (p - 1) (pos 0) ++ recent') →
          RunChecked e i l (record { number = 0; state = s }) l'
      lent_finished s_is ws_is ds_is =
          let n : p - 1 ≡ length window' - 1 = ap (λ (t : ℕ). t - 1) (p_is ∙ sym samples_long) in
          finished c left m s_is ws_is (ds_is ∙ ap (λ (t : ℕ). padded (set window' t (pos 0) ++ recent')) n) samples_long

-- ---- what is handed out

-- the parts of the work areas that are lent
pub area_long : {A : Type 0} (x : A) {n : ℕ} → n ≤ block_limit → length (take n (replicate block_limit x)) ≡ n
area_long x {n = n} h = length-take-le n (replicate block_limit x) (omega (arith, length-replicate block_limit x))

-- what is written there
pub area_room : {A : Type 0} (out rest : List A) {n : ℕ} → length out ≡ n → n ≤ length (out ++ rest)
area_room out rest h = omega (arith, length-append out rest)

pub area_back : {A : Type 0} (out rest : List A) {n : ℕ} → length out ≡ n → take (n - 0) (out ++ rest) ≡ out
area_back out rest {n = n} h = first_part n (out ++ rest) ∙ take_at out rest n h

pub area_copied : {A : Type 0} (out rest : List A) {m n : ℕ} → length out ≡ n → m ≡ n → length (take (n - 0) (out ++ rest)) ≡ m
area_copied out rest h e = ap length (area_back out rest h) ∙ h ∙ sym e

module _ {e : Equaliser} {i : Block} {l : Outputs} {a : Answer} {l' : Outputs} (h : RunChecked e i l a l') where
  -- beside 0 ψ kept its limit
  fits : a.number ≡ 0 → ψFitsBlock e i ≡ true
  fits z = go (ψFitsBlock e i) refl h.number
    where
      go : (b : Bool) → ψFitsBlock e i ≡ b → a.number ≡ cond b 0 6 → ψFitsBlock e i ≡ true
      go true g n = g
      go false g n = absurd (omega arith)

  handed : a.number ≡ 0 → OutputsLong (settings e) l → l' ≡ block_outputs (settings e) (memory e) i
  handed z q = h.outputs_are ∙ block_all (settings e) (memory e) i (fits z) l q

  module _ (given : Outputs) where
    -- nothing, beside 6
    pub block_none : (a.number ≡ 0 → ⊥) → given ≡ outputs_or e i given
    block_none f = go (ψFitsBlock e i) refl h.number
      where
        go : (b : Bool) → ψFitsBlock e i ≡ b → a.number ≡ cond b 0 6 → given ≡ outputs_or e i given
        go true g n = absurd (f n)
        go false g n = rw g

    -- everything, beside 0
    pub block_new : a.number ≡ 0 → OutputsLong (settings e) l → l' ≡ outputs_or e i given
    block_new z q = handed z q ∙ ap (λ (b : Bool). cond b (block_outputs (settings e) (memory e) i) given) (sym (fits z))

module _ (e : Equaliser) (l : Buffers) (passed : 0 ≡ check_number e l) where
  pub places_most : {n : ℕ} → n ≡ e.n → n ≤ block_limit
  places_most h = omega (arith, (fit_within (settings e) (examined_tests e (check_tests e l (sym passed)).0).0).N_most)

  pub areas_long : {n : ℕ} → n ≡ e.n → OutputsLong (settings e)
      (outputs_of (take n (replicate block_limit (pos 0))) (take n (replicate block_limit 0)) (take n (replicate block_limit (pos 0))) (take n (replicate block_limit (pos 0))) (take n (replicate block_limit 0)))
  areas_long h = record {
    y_long = area_long (pos 0) (places_most h) ∙ h;
    xi_long = area_long 0 (places_most h) ∙ h;
    decision_long = area_long (pos 0) (places_most h) ∙ h;
    z_long = area_long (pos 0) (places_most h) ∙ h;
    theta_long = area_long 0 (places_most h) ∙ h;
  }

  -- a block that is turned down
  pub block_refused : (x : Refusal) {areas areas' : Outputs} → RunChecked e l.block areas (answer_with e (Err x)) areas' → Run e l (answer_with e (Err x)) l.outputs
  block_refused x h = refused e l (number_of x) (h.number ∙ number_is e l (sym passed)) (λ z. omega (arith, number_least x))

  -- one that is accepted
  module _ {s : Equaliser} {areas areas' : Outputs} (long : OutputsLong (settings e) areas) (h : RunChecked e l.block areas (answer_with e (Ok s)) areas') where
    pub handed_long : OutputsLong (settings e) areas'
    handed_long = subst (OutputsLong (settings e)) (sym (handed h refl long)) (block_long (settings e) (memory e) l.block)

    pub accepted : {l' : Outputs} → l' ≡ areas' → Run e l (answer_with e (Ok s)) l'
    accepted g = answered e l (sym passed) h (g ∙ block_new h l.outputs refl long)
