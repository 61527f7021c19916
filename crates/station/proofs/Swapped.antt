-- The swapped pair: whatever blocks both are lent, they answer and hand out the same, and stay a swapped pair.
use mathlib.Core.Path.{◌≡◌, refl, sym, ap, ap₂, ◌∙◌, subst}
use mathlib.Core.Bool.{Bool, true, false}
use mathlib.Core.List.{List, [], ◌∷◌}
use Prim.Native.Nat.{ℕ, zero, suc, ◌^◌}
use lib.Dec.{eqb, leb}
use lib.ListN.{length, length-map}
use native.Mathlib.Omega.{arith}
use lib.IntN.{ℤ, pos, negsuc, neg_ℤ}
use mir.Syntax.{w16}
use mir.Val.{SFits}
use borrow.Author.Tests.{eqb-true, eqb-false, leb-true, leb-false}
use Rattle.laws.specs.Lists.{all}
use Rattle.laws.specs.Negated.{negated, negated_negated}
use Rattle.laws.specs.Sums.{Each}
use Rattle.steps.specs.Settings.{Settings}
use Rattle.block.specs.Block.{Block, Memory, ψFits, block_outputs}
use Rattle.block.specs.Block as Block
use Rattle.block.specs.Swapped.{swapped, swapped_block}
use Rattle.block.proofs.SwappedLaws.{ψ_fits_same, block_same, next_memory_swapped, swapped_back, swapped_sound}
use Rattle.state.specs.State.{settings, memory}
use Rattle.state.specs.Answers.{set_up_state}
use Rattle.state.specs.declared.equaliser.Equaliser.{Equaliser}
use Rattle.state.proofs.SoundLaws.{examined_same, set_up_accepted}
use Rattle.state.proofs.SetUpLaws.{set_up_swapped}
use Rattle.state.proofs.KeptLaws.{settings_is, memory_is, kept_accepted}
use Rattle.checks.specs.Checks.{Buffers, lengths_fit, check_number}
use Rattle.checks.proofs.CheckLaws.{check_same, check_tests}
use Rattle.station.specs.Answers.{run_number, run_state, run_outputs}
use Rattle.station.specs.Claim.{Typed, WithinLimits}
use Rattle.station.specs.Swapped.{SoundState, SwappedPair, SwappedLists, BuffersOfBoth, NotLowest, partner, partner_lists, SameRuns, SwappedAlways}
use Rattle.station.proofs.AnswerLaws.{outputs_new, outputs_old, run_tests}
use Rattle.station.proofs.Claim.{accepted_within, within_bounds, refused_same, run_within, next_settings, next_memory_lem}

sound_within : {s : Equaliser} → WithinLimits s → SoundState s
sound_within g = record { sound = g.sound; weights_long = g.weights_long; past_long = g.past_long }

-- a sound state that a block is accepted on
within : (s : Equaliser) → SoundState s → (l : Buffers) → run_number s l ≡ 0 → WithinLimits s
within s g l ok = accepted_within (record { weights_long = g.weights_long; past_long = g.past_long; number = (check_tests s l (run_tests s l ok).0).0 })

module _ (s s' : Equaliser) (p : SwappedPair s s') (l l' : Buffers) (b : SwappedLists l l') where
  -- ---- what a block goes by

  -- whatever is said of settings, a memory and a block
  on_both : {A : Type 0} (f : Settings → Memory → Block → A) → f (settings s') (memory s') l'.block ≡ f (settings s) (swapped (memory s)) (swapped_block l.block)
  on_both f = ap₂ (λ (k : Settings) (o : Memory). f k o l'.block) p.settings_same p.memory_swapped ∙ ap (f (settings s) (swapped (memory s))) b.block_swapped

  -- whatever is said of a block
  of_block : {A : Type 0} (f : Block → A) → f l'.block ≡ f (swapped_block l.block)
  of_block f = ap f b.block_swapped

  -- ---- the number

  lengths_same : lengths_fit s.n l' ≡ lengths_fit s.n l
  lengths_same =
      ap (all (λ (n : ℕ). eqb n s.n)) (ap₂ ◌∷◌ (of_block (λ (i : Block). length i.samples) ∙ length-map l.block.samples neg_ℤ)
      (ap₂ ◌∷◌ (of_block (λ (i : Block). length i.gains)) (ap₂ ◌∷◌ (of_block (λ (i : Block). length i.entries)) b.lengths_same)))

  checks_same : check_number s' l' ≡ check_number s l
  checks_same =
      check_same s s' l l' p.settings_same (examined_same s s' p.settings_same p.state.sound p.state'.sound) lengths_same (of_block (λ (i : Block). i.gains)) (of_block (λ (i : Block). i.entries))

  going_same : ψFits (settings s') (memory s') l'.block s'.n ≡ ψFits (settings s) (memory s) l.block s.n
  going_same = on_both (λ k o i. ψFits k o i k.N) ∙ ψ_fits_same (settings s) (memory s) l.block s.n

  number_same : run_number s' l' ≡ run_number s l
  unfolding run_number
  number_same = rw (checks_same, going_same)

  -- ---- the lists

  outputs_same : run_number s l ≡ 0 → run_outputs s' l' ≡ run_outputs s l
  outputs_same ok = outputs_new s' l' (number_same ∙ ok) ∙ on_both block_outputs ∙ block_same (settings s) (memory s) l.block ∙ sym (outputs_new s l ok)

  pub same_runs : SameRuns s l s' l'
  same_runs = record {
    number_same = number_same;
    outputs_same = outputs_same;
    outputs_kept = λ f. (outputs_old s l f, outputs_old s' l' (λ e. f (sym number_same ∙ e)));
  }

  -- ---- the states

  module _ (t : Typed l) (t' : Typed l') where
    accepted_pair : run_number s l ≡ 0 → SwappedPair (run_state s l) (run_state s' l')
    accepted_pair ok = record {
      state = sound_within (run_within s g l t);
      state' = sound_within (run_within s' g' l' t');
      settings_same = next_settings s' g' l' t' ok' ∙ p.settings_same ∙ sym (next_settings s g l t ok);
      memory_swapped =
          next_memory_lem s' g' l' t' ok' ∙ on_both Block.next_memory ∙ next_memory_swapped (settings s) (memory s) l.block ∙ ap swapped (sym (next_memory_lem s g l t ok));
    }
      where
        ok' : run_number s' l' ≡ 0
        ok' = number_same ∙ ok

        g : WithinLimits s
        g = within s p.state l ok

        g' : WithinLimits s'
        g' = within s' p.state' l' ok'

    pub next_pair : SwappedPair (run_state s l) (run_state s' l')
    next_pair = go (eqb (run_number s l) 0) refl
      where
        go : (a : Bool) → eqb (run_number s l) 0 ≡ a → SwappedPair (run_state s l) (run_state s' l')
        go true e = accepted_pair (eqb-true (run_number s l) 0 e)
        go false e =
            let f = eqb-false (run_number s l) 0 e in
            rw (refused_same s l f, refused_same s' l' (λ z. f (sym number_same ∙ z))) p

pub swapped_always : (s s' : Equaliser) → SwappedPair s s' → (bs : List BuffersOfBoth) → SwappedAlways s s' bs
swapped_always s s' p [] = p
swapped_always s s' p (b ∷ bs) =
    (p, (same_runs s s' p b.l b.l' b.lists, swapped_always (run_state s b.l) (run_state s' b.l') (next_pair s s' p b.l b.l' b.lists b.typed b.typed') bs))

-- ---- the pairs that there are

-- no sample is −32768, at neither
none_lowest : (m : List ℤ) → Each (SFits w16) (negated m) → Each NotLowest m
none_lowest [] h = tt
none_lowest (x ∷ m) h = ((λ e. absurd (omega (arith, (subst (SFits w16) (ap neg_ℤ e) h.0).sfits))), none_lowest m h.1)

pub not_lowest : (b : BuffersOfBoth) → Each NotLowest b.l.block.samples × Each NotLowest b.l'.block.samples
not_lowest b =
    (none_lowest b.l.block.samples (subst (Each (SFits w16)) there b.typed'.samples), none_lowest b.l'.block.samples (subst (Each (SFits w16)) (sym back) b.typed.samples))
  where
    there : b.l'.block.samples ≡ negated b.l.block.samples
    there = ap (λ (i : Block). i.samples) b.lists.block_swapped

    back : negated b.l'.block.samples ≡ b.l.block.samples
    back = ap negated there ∙ negated_negated b.l.block.samples

-- and every block without one has a partner
fits_neg : (x : ℤ) → SFits w16 x → NotLowest x → SFits w16 (neg_ℤ x)
fits_neg (pos zero) h f = h
fits_neg (pos (suc n)) h f = record { sfits = omega (arith, h.sfits) }
fits_neg (negsuc n) h f = go (leb (suc (suc n)) (2 ^ 15)) refl
  where
    go : (b : Bool) → leb (suc (suc n)) (2 ^ 15) ≡ b → SFits w16 (neg_ℤ (negsuc n))
    go true e = record { sfits = leb-true (suc (suc n)) (2 ^ 15) e }
    go false e = absurd (f (ap negsuc (omega (arith, leb-false (suc (suc n)) (2 ^ 15) e, h.sfits))))

negated_fits : (m : List ℤ) → Each (SFits w16) m → Each NotLowest m → Each (SFits w16) (negated m)
negated_fits [] h f = tt
negated_fits (x ∷ m) h f = (fits_neg x h.0 f.0, negated_fits m h.1 f.1)

pub lists_partner : (l : Buffers) → Typed l → Each NotLowest l.block.samples → Typed (partner_lists l) × SwappedLists l (partner_lists l)
lists_partner l t f =
    (record { samples = negated_fits l.block.samples t.samples f; gains = t.gains; entries = t.entries; outputs = t.outputs }, record { block_swapped = refl; lengths_same = refl })

-- each is the other's partner
pub pair_back : (s s' : Equaliser) → SwappedPair s s' → SwappedPair s' s
pair_back s s' p = record {
  state = p.state';
  state' = p.state;
  settings_same = sym p.settings_same;
  memory_swapped = sym (ap swapped p.memory_swapped ∙ swapped_back (memory s));
}

-- every state of every list of calls has one
pub partner_pair : (s : Equaliser) → WithinLimits s → SwappedPair s (partner s)
partner_pair s g =
    let o = swapped_sound (settings s) (memory s) (within_bounds g) in
    let a = accepted_within (kept_accepted (settings s) (swapped (memory s)) o g.sizes g.admitted) in
    record { state = sound_within g; state' = sound_within a; settings_same = settings_is (settings s) (swapped (memory s)); memory_swapped = memory_is (settings s) (swapped (memory s)) o }

-- and what set-up returns is its own
pub set_up_pair : (k : Settings) → SwappedPair (set_up_state k) (set_up_state k)
set_up_pair k = let g = sound_within (accepted_within (set_up_accepted k)) in record { state = g; state' = g; settings_same = refl; memory_swapped = set_up_swapped k }
