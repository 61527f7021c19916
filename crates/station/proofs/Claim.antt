-- The claim: from every state that a set-up or a load returned, every list of calls holds.
use mathlib.Core.Path.{◌≡◌, refl, sym, ap, ◌∙◌, subst}
use mathlib.Core.Bool.{Bool, true, false, cond}
use mathlib.Core.List.{List, [], ◌∷◌, ◌++◌}
use Prim.Native.Nat.{ℕ}
use native.Mathlib.Omega.{arith}
use lib.Dec.{eqb}
use mir.Syntax.{w16}
use mir.Val.{SFits}
use borrow.Author.Tests.{ne_eqb, eqb-true, eqb-false}
use Rattle.laws.specs.Machine.{abs_fits}
use Rattle.laws.specs.Sums.{Each, each_weaken}
use Rattle.words.specs.Words.{Byte}
use Rattle.block.specs.Block.{Memory, next_memory, ψFits, Raises, SameWeights}
use Rattle.block.specs.Sound.{Sound}
use Rattle.block.proofs.BlockSound.{next_memory_sound}
use Rattle.block.proofs.BlockHolds.{at_sample}
use Rattle.block.proofs.BlockOutcomes.{stopped_raises, raises_stopped, frozen_memory}
use Rattle.block.proofs.BlockNear.{stored_near, met_later}
use Rattle.state.specs.State.{settings, memory, state_of}
use Rattle.state.specs.Answers.{examined}
use Rattle.image.specs.Image.{image, save_number, save_length, save_buffer}
use Rattle.image.specs.Load.{load_number, load_state}
use Rattle.state.specs.declared.equaliser.Equaliser.{Equaliser}
use Rattle.state.proofs.SoundLaws.{Accepted, accepted_sound, examined_tests, tests_examined, set_up_accepted}
use Rattle.state.proofs.KeptLaws.{settings_is, memory_is, kept_accepted}
use Rattle.image.proofs.ImageLaws.{save_number_lem}
use Rattle.image.proofs.LoadLaws.{load_image, saved_front, saved_rest, image_bytes, load_accepted, image_loaded}
use Rattle.image.proofs.LoadAnswers.{state_refused}
use Rattle.station.specs.Answers.{run_number, run_state, run_outputs}
use Rattle.checks.specs.Checks.{Buffers, check_number}
use Rattle.checks.specs.Calls.{Sampled, Checked}
use Rattle.station.specs.Claim.{Typed, Call, run, trial, save, load, left, left_by, Start, from_set_up, from_load, WithinLimits, StateAccepted, LaterNear, AcceptedBlock, RunHolds, TrialHolds, SaveHolds, LoadHolds, CallHolds, Holds}
use Rattle.checks.proofs.CheckLaws.{check_number_lem, checked_is}
use Rattle.station.proofs.AnswerLaws.{accepted_new, accepted_old, outputs_new, outputs_old, run_tests}

-- ---- states within limits

pub accepted_within : {s : Equaliser} → Accepted s → WithinLimits s
accepted_within {s} a =
    let t = examined_tests s a.number in
    record { sizes = t.0; admitted = t.1; sound = t.2; weights_long = a.weights_long; past_long = a.past_long }

pub within_accepted : {s : Equaliser} → WithinLimits s → Accepted s
within_accepted {s} g = record { weights_long = g.weights_long; past_long = g.past_long; number = tests_examined s g.sizes g.admitted g.sound }

-- the same as bounds on what it holds
pub within_bounds : {s : Equaliser} → WithinLimits s → Sound (settings s) (memory s)
within_bounds g = accepted_sound (within_accepted g)

pub start_within : (s : Equaliser) → Start s → WithinLimits s
start_within s (from_set_up k e) = subst WithinLimits (sym e) (accepted_within (set_up_accepted k))
start_within s (from_load bytes b e) = subst WithinLimits (sym e) (accepted_within (load_accepted bytes))

-- ---- a block

sampled : (l : Buffers) → Typed l → Sampled l.block.samples
sampled l t = each_weaken (SFits w16) _ (λ z f. abs_fits f) l.block.samples t.samples

pub refused_same : (s : Equaliser) (l : Buffers) → (run_number s l ≡ 0 → ⊥) → run_state s l ≡ s
unfolding run_state
refused_same s l f = accepted_old s l _ s f

accepted_leaves : (s : Equaliser) (l : Buffers) → run_number s l ≡ 0 → run_state s l ≡ state_of (settings s) (next_memory (settings s) (memory s) l.block)
unfolding run_state
accepted_leaves s l h = accepted_new s l _ s h

module _ (s : Equaliser) (g : WithinLimits s) (l : Buffers) (t : Typed l) (ok : run_number s l ≡ 0) where
  checked : Checked s l.block
  checked = checked_is s l (run_tests s l ok).0 g.weights_long g.past_long (sampled l t)

  abbrev next : Memory
  next = next_memory (settings s) (memory s) l.block

  next_sound : Sound (settings s) next
  next_sound = next_memory_sound (settings s) (memory s) l.block checked.sound checked.acceptable (run_tests s l ok).1

  -- the settings and the memory of the state that it leaves
  pub next_settings : settings (run_state s l) ≡ settings s
  next_settings = ap settings (accepted_leaves s l ok) ∙ settings_is (settings s) next

  pub next_memory_lem : memory (run_state s l) ≡ next
  next_memory_lem = ap memory (accepted_leaves s l ok) ∙ memory_is (settings s) next next_sound

  next_within : WithinLimits (state_of (settings s) next)
  next_within = accepted_within (kept_accepted (settings s) next next_sound g.sizes g.admitted)

pub run_within : (s : Equaliser) → WithinLimits s → (l : Buffers) → Typed l → WithinLimits (run_state s l)
run_within s g l t = go (eqb (run_number s l) 0) refl
  where
    go : (b : Bool) → eqb (run_number s l) 0 ≡ b → WithinLimits (run_state s l)
    go true e = let ok = eqb-true (run_number s l) 0 e in subst WithinLimits (sym (accepted_leaves s l ok)) (next_within s g l t ok)
    go false e = subst WithinLimits (sym (refused_same s l (eqb-false (run_number s l) 0 e))) g

pub left_within : (s : Equaliser) → WithinLimits s → (c : Call) → WithinLimits (left s c)
left_within s g (run l t) = run_within s g l t
left_within s g (trial l t) = g
left_within s g (save buffer t) = g
left_within s g (load bytes t) = accepted_within (load_accepted bytes)

-- ---- an accepted block

module _ (s : Equaliser) (g : WithinLimits s) (l : Buffers) (t : Typed l) (ok : run_number s l ≡ 0) where
  -- the settings and the memory of the state that it leaves are its own settings and what it left
  near_on : (s' : Equaliser) (l' : Buffers) → settings s' ≡ settings s → memory s' ≡ next s g l t ok → LaterNear s l s' l'
  near_on s' l' e f n j h i m = rw (e, f) (met_later (settings s) (memory s) l.block (checked s g l t ok).sound (checked s g l t ok).acceptable l'.block n j h i m)

  accepted_block : AcceptedBlock s l (run_state s l) (run_outputs s l)
  accepted_block = record {
    sample = λ n h. at_sample (settings s) (memory s) l.block (checked s g l t ok).sound (checked s g l t ok).acceptable (run_tests s l ok).1 n h;
    outputs = outputs_new s l ok;
    leaves = accepted_leaves s l ok;
    stored = stored_near (settings s) (memory s) l.block (checked s g l t ok).acceptable;
    later = λ cs same l' ok'. near_on (left_by (run_state s l) cs) l' (ap settings same ∙ next_settings s g l t ok) (ap memory same ∙ next_memory_lem s g l t ok);
  }

-- ---- the numbers

-- none of 1, 2 and 9
other : (n : ℕ) → eqb n 1 ≡ false → eqb n 2 ≡ false → eqb n 9 ≡ false → StateAccepted n
other n a b c = record { not_sizes = eqb-false n 1 a; not_step = eqb-false n 2 b; not_state = eqb-false n 9 c }

module _ (s : Equaliser) (sound : examined s ≡ 0) where
  run_accepted : (l : Buffers) → StateAccepted (run_number s l)
  unfolding run_number
  run_accepted l = go (eqb (check_number s l) 0) (ψFits (settings s) (memory s) l.block s.n)
    where
      go : (t a : Bool) → StateAccepted (cond t (cond a 0 6) (check_number s l))
      go true true = other 0 refl refl refl
      go true false = other 6 refl refl refl
      go false a = check_number_lem s l StateAccepted sound (other 0 refl refl refl) (other 3 refl refl refl) (other 4 refl refl refl) (other 5 refl refl refl)

  save_accepted : (buffer : List ℕ) → StateAccepted (save_number s buffer)
  save_accepted buffer = save_number_lem s buffer StateAccepted sound (other 0 refl refl refl) (other 7 refl refl refl)

-- ---- 6

module _ (s : Equaliser) (g : WithinLimits s) (l : Buffers) where
  -- none of the checks before answers 6
  six_tests : run_number s l ≡ 6 → (check_number s l ≡ 0) × (ψFits (settings s) (memory s) l.block s.n ≡ false)
  unfolding run_number
  six_tests h = go (eqb (check_number s l) 0) refl (ψFits (settings s) (memory s) l.block s.n) refl h
    where
      go : (t : Bool) → eqb (check_number s l) 0 ≡ t → (a : Bool) → ψFits (settings s) (memory s) l.block s.n ≡ a → cond t (cond a 0 6) (check_number s l) ≡ 6 →
          (check_number s l ≡ 0) × (ψFits (settings s) (memory s) l.block s.n ≡ false)
      go true e true f h = absurd (omega arith)
      go true e false f h = (eqb-true (check_number s l) 0 e, f)
      go false e a f h =
          absurd (check_number_lem s l (λ (n : ℕ). n ≡ 6 → ⊥) (within_accepted g).number (λ q. omega arith) (λ q. omega arith) (λ q. omega arith) (λ q. omega arith) h)

  raised : run_number s l ≡ 6 → (check_number s l ≡ 0) × Raises (settings s) (memory s) l.block
  raised h = let t = six_tests h in (t.0, stopped_raises (settings s) (memory s) l.block (within_bounds g).ψ_most t.1)

  raised_only : check_number s l ≡ 0 → Raises (settings s) (memory s) l.block → run_number s l ≡ 6
  unfolding run_number
  raised_only e r = simp (e, raises_stopped (settings s) (memory s) l.block r)

-- ---- with M = 0

frozen : (s : Equaliser) → WithinLimits s → (l : Buffers) → Typed l → s.m ≡ 0 → SameWeights (memory s) (memory (run_state s l))
frozen s g l t m = go (eqb (run_number s l) 0) refl
  where
    go : (b : Bool) → eqb (run_number s l) 0 ≡ b → SameWeights (memory s) (memory (run_state s l))
    go true e =
        let ok = eqb-true (run_number s l) 0 e in
        let c = checked s g l t ok in
        subst (SameWeights (memory s)) (sym (next_memory_lem s g l t ok))
        (frozen_memory (settings s) (memory s) l.block c.sound c.acceptable (run_tests s l ok).1 m)
    go false e = subst (λ (s' : Equaliser). SameWeights (memory s) (memory s')) (sym (refused_same s l (eqb-false (run_number s l) 0 e))) (record { ahead = refl; behind = refl })

-- ---- saving and loading

pub save_holds : (s : Equaliser) → WithinLimits s → (buffer : List ℕ) → SaveHolds s buffer (save_number s buffer) (save_length s buffer) (save_buffer s buffer)
save_holds s g buffer =
    let back = load_image s (within_accepted g) in
    record {
      number = save_accepted s (within_accepted g).number buffer;
      accepted_back = λ ok. ap load_number (saved_front s (within_accepted g) buffer ok) ∙ back.0;
      state_back = λ ok. ap load_state (saved_front s (within_accepted g) buffer ok) ∙ back.1;
      later_bytes = saved_rest s (within_accepted g) buffer;
      turned_down = λ f. (simp (ne_eqb (save_number s buffer) 0 f), simp (ne_eqb (save_number s buffer) 0 f));
    }

pub load_holds : (bytes : List ℕ) → Each Byte bytes → LoadHolds bytes (load_number bytes) (load_state bytes)
load_holds bytes t = record { same = image_loaded bytes t; turned_down = state_refused bytes }

-- after any calls, a load of the image of a state gives that state back
pub restored : (s : Equaliser) → WithinLimits s → (cs : List Call) (t : Each Byte (image s)) → left_by s (cs ++ (load (image s) t ∷ [])) ≡ s
restored s g cs t = last s cs
  where
    last : (r : Equaliser) (cs : List Call) → left_by r (cs ++ (load (image s) t ∷ [])) ≡ s
    last r [] = (load_image s (within_accepted g)).1
    last r (c ∷ cs) = last (left r c) cs

-- which can be loaded: an image is bytes
pub image_typed : (s : Equaliser) → WithinLimits s → Each Byte (image s)
image_typed s g = image_bytes s (within_accepted g)

-- ---- every call, and every list of calls

pub run_holds : (s : Equaliser) → WithinLimits s → (l : Buffers) → Typed l → RunHolds s l (run_number s l) (run_state s l) (run_outputs s l)
run_holds s g l t = record {
  number = run_accepted s (within_accepted g).number l;
  accepted = accepted_block s g l t;
  turned_down = λ f. (refused_same s l f, outputs_old s l f);
  raised = raised s g l;
  raised_only = raised_only s g l;
  frozen = frozen s g l t;
}

pub trial_holds : (s : Equaliser) → WithinLimits s → (l : Buffers) → Typed l → TrialHolds s l (run_number s l) (run_state s l) (run_outputs s l)
trial_holds s g l t = record { as_run = run_holds s g l t; returned = run_within s g l t }

call_holds : (s : Equaliser) → WithinLimits s → (c : Call) → CallHolds s c
call_holds s g (run l t) = run_holds s g l t
call_holds s g (trial l t) = trial_holds s g l t
call_holds s g (save buffer t) = save_holds s g buffer
call_holds s g (load bytes t) = load_holds bytes t

holds : (s : Equaliser) → WithinLimits s → (cs : List Call) → Holds s cs
holds s g [] = g
holds s g (c ∷ cs) = (g, (call_holds s g c, holds (left s c) (left_within s g c) cs))

pub claim : (s : Equaliser) → Start s → (cs : List Call) → Holds s cs
claim s start cs = holds s (start_within s start) cs

-- ---- a loss of power

-- a block is run and its state saved, other calls follow, and the image is loaded: what an accepted block then still uses of that block's samples is close to what was received
pub power_lost : (s : Equaliser) → WithinLimits s → (l : Buffers) → Typed l → run_number s l ≡ 0 → (cs : List Call) (t : Each Byte (image (run_state s l))) (l' : Buffers) →
    let s' = left_by (run_state s l) (cs ++ (load (image (run_state s l)) t ∷ [])) in
    run_number s' l' ≡ 0 → LaterNear s l s' l'
power_lost s g l typed ok cs t l' ok' =
    ((run_holds s g l typed).accepted ok).later (cs ++ (load (image (run_state s l)) t ∷ [])) (restored (run_state s l) (run_within s g l typed) cs t) l' ok'
