-- The claim over the calls for C: what is proved of the definitions holds of whatever their contracts allow.
use mathlib.Core.Path.{◌≡◌, refl, sym, ap, ap₂, ◌∙◌, subst}
use mathlib.Core.List.{List, [], ◌∷◌}
use Prim.Native.Nat.{ℕ, ◌≤◌}
use lib.ListN.{length, take}
use Rattle.laws.specs.Sums.{Each}
use Rattle.words.specs.Words.{Byte}
use Rattle.steps.specs.Limits.{slots}
use Rattle.image.specs.Image.{image, save_number, save_length, save_buffer}
use Rattle.image.specs.Load.{load_number, load_state, Load}
use Rattle.image.specs.declared.save.Saved.{Saved}
use Rattle.image.proofs.ImageLaws.{save_examined}
use Rattle.image.proofs.LoadLaws.{load_image, saved_front, loaded_saved}
use Rattle.state.specs.declared.equaliser.Equaliser.{Equaliser}
use Rattle.state.specs.declared.equaliser.Answer.{Answer}
use Rattle.state.proofs.SoundLaws.{Accepted}
use Rattle.checks.specs.Checks.{Buffers}
use Rattle.station.specs.Answers.{run_number, run_state, run_outputs}
use Rattle.station.specs.Claim.{Call, run, trial, save, load, Start, from_set_up, from_load, WithinLimits}
use Rattle.station.proofs.Claim.{start_within, left_within, run_holds, trial_holds, save_holds, load_holds}
use Rattle.firmware.specs.Held.{InPlace, Saving}
use Rattle.firmware.specs.Called as C
use Rattle.firmware.specs.Called.{Began, by_set_up, by_loading, Called, by_run, by_trial, by_save, by_load, records_of, answers_of, states, answers, CalledHolds, AsClaimed}

-- ---- demand 2

-- what an accepted save left at the front of its buffer, as long as it said, given to a load, returns the record that was saved
pub saved_loads : (s : Equaliser) → length s.weights ≡ slots → length s.past ≡ slots → (before : List ℕ) (a : Saved) (s' : Equaliser) (after : List ℕ) → Saving s before a s' after →
    a.number ≡ 0 → (b : Answer) → Load (take a.length after) b → (b.number ≡ 0) × (b.state ≡ s)
saved_loads s w d before a s' after (r, e) ok b l = (l.number ∙ ap load_number front ∙ back.0, l.state ∙ ap load_state front ∙ back.1)
  where
    number : save_number s before ≡ 0
    number = sym r.number ∙ ok

    accepted : Accepted s
    accepted = record { weights_long = w; past_long = d; number = save_examined s before number }

    front : take a.length after ≡ image s
    front = ap₂ take r.saved_length r.contents ∙ saved_front s accepted before number

    back : (load_number (image s) ≡ 0) × (load_state (image s) ≡ s)
    back = load_image s accepted

-- what a load accepted, saved to a buffer that is long enough, gives those bytes
pub loaded_saves : (bytes : List ℕ) → Each Byte bytes → (b : Answer) → Load bytes b → b.number ≡ 0 → (before : List ℕ) → length bytes ≤ length before → (a : Saved) (s' : Equaliser) (after : List ℕ) →
    Saving b.state before a s' after → (a.number ≡ 0) × (a.length ≡ length bytes) × (take a.length after ≡ bytes)
loaded_saves bytes t b l ok before room a s' after (r, e) = (r.number ∙ h.0, r.saved_length ∙ h.1, ap₂ take r.saved_length r.contents ∙ h.2)
  where
    Back : Equaliser → Type 0
    Back s = (save_number s before ≡ 0) × (save_length s before ≡ length bytes) × (take (save_length s before) (save_buffer s before) ≡ bytes)

    h : Back b.state
    h = subst Back (sym l.state) (loaded_saved bytes t (sym l.number ∙ ok) before room)

-- ---- the records and the answers are those of the claim

pub records_are : {s : Equaliser} {cs : List Call} (c : Called s cs) → records_of c ≡ states s cs
records_are (C.end s) = refl
records_are (C.ran s l t cs n s' h r c) = ap (λ ss. s ∷ ss) (records_are c ∙ ap (λ x. states x cs) r.state)
records_are (C.tried s l t cs a s' h r c) = ap (λ ss. s ∷ ss) (records_are c ∙ ap (λ x. states x cs) r.1)
records_are (C.saved s buffer t cs a s' after r c) = ap (λ ss. s ∷ ss) (records_are c ∙ ap (λ x. states x cs) r.1)
records_are (C.loaded s bytes t cs a r c) = ap (λ ss. s ∷ ss) (records_are c ∙ ap (λ x. states x cs) r.state)

answers_are : {s : Equaliser} {cs : List Call} (c : Called s cs) → answers_of c ≡ answers s cs
answers_are (C.end s) = refl
answers_are (C.ran s l t cs n s' h r c) = ap₂ ◌∷◌ (ap₂ by_run r.number r.outputs) (answers_are c ∙ ap (λ x. answers x cs) r.state)
answers_are (C.tried s l t cs a s' h r c) =
    ap₂ ◌∷◌ (ap₂ by_trial (λ i. record { number = r.0.number i; state = r.0.state i }) r.0.outputs) (answers_are c ∙ ap (λ x. answers x cs) r.1)
answers_are (C.saved s buffer t cs a s' after r c) =
    ap₂ ◌∷◌ (ap₂ by_save (λ i. record { number = r.0.number i; length = r.0.saved_length i }) r.0.contents) (answers_are c ∙ ap (λ x. answers x cs) r.1)
answers_are (C.loaded s bytes t cs a r c) = ap₂ ◌∷◌ (ap by_load (λ i. record { number = r.number i; state = r.state i })) (answers_are c ∙ ap (λ x. answers x cs) r.state)

-- ---- all that the claim says holds of them

began_start : {s : Equaliser} → Began s → Start s
began_start (by_set_up k a r e) = from_set_up k (e ∙ r.state)
began_start (by_loading bytes t a r e) = from_load bytes t (e ∙ r.state)

all_hold : {s : Equaliser} {cs : List Call} (c : Called s cs) → WithinLimits s → CalledHolds c
all_hold (C.end s) g = g
all_hold (C.ran s l t cs n s' h r c) g =
    (g, (rw (r.number, r.state, r.outputs) (run_holds s g l t), all_hold c (subst WithinLimits (sym r.state) (left_within s g (run l t)))))
all_hold (C.tried s l t cs a s' h r c) g =
    (g, (rw (r.0.number, r.0.state, r.0.outputs) (trial_holds s g l t), all_hold c (subst WithinLimits (sym r.1) g)))
all_hold (C.saved s buffer t cs a s' after r c) g =
    (g, (rw (r.0.number, r.0.saved_length, r.0.contents) (save_holds s g buffer), all_hold c (subst WithinLimits (sym r.1) g)))
all_hold (C.loaded s bytes t cs a r c) g =
    (g, (rw (r.number, r.state) (load_holds bytes t), all_hold c (subst WithinLimits (sym r.state) (left_within s g (load bytes t)))))

pub called_holds : {s : Equaliser} {cs : List Call} → Began s → (c : Called s cs) → AsClaimed c
called_holds {s} b c = record { records_same = records_are c; answers_same = answers_are c; holds = all_hold c (start_within s (began_start b)) }

-- ---- the contracts can be met by every list of calls

as_run : (s : Equaliser) (l : Buffers) → InPlace s l (run_number s l) (run_state s l) (run_outputs s l)
as_run s l = record { number = refl; state = refl; outputs = refl }

pub called_exists : (s : Equaliser) (cs : List Call) → Called s cs
called_exists s [] = C.end s
called_exists s (run l t ∷ cs) = C.ran s l t cs (run_number s l) (run_state s l) (run_outputs s l) (as_run s l) (called_exists (run_state s l) cs)
called_exists s (trial l t ∷ cs) = C.tried s l t cs _ s (run_outputs s l) (as_run s l, refl) (called_exists s cs)
called_exists s (save buffer t ∷ cs) =
    C.saved s buffer t cs (record { number = save_number s buffer; length = save_length s buffer }) s (save_buffer s buffer)
    (record { number = refl; saved_length = refl; contents = refl }, refl) (called_exists s cs)
called_exists s (load bytes t ∷ cs) =
    C.loaded s bytes t cs (record { number = load_number bytes; state = load_state bytes }) (record { number = refl; state = refl }) (called_exists (load_state bytes) cs)
