-- The checks before a block is run: their number, and what holds where it is 0.
use mathlib.Core.Path.{◌≡◌, refl, sym, ap, ◌∙◌, subst}
use mathlib.Core.Bool.{Bool, true, false, cond}
use mathlib.Core.List.{List, [], ◌∷◌}
use Prim.Native.Nat.{ℕ, ◌+◌, ◌<◌, ◌≤◌}
use native.Mathlib.Omega.{arith}
use native.Mathlib.Numerals.{add-one}
use lib.Dec.{leb, eqb}
use lib.IntN.{ℤ, pos}
use lib.ListN.{length, get_or, take}
use lib.Seq.{take-suc, take_all}
use mir.Syntax.{w16}
use mir.Val.{SFits}
use borrow.Author.Tests.{leb-true, eqb-true, eqb-false, ne_eqb}
use Rattle.laws.specs.Lists.{and_left, and_right, all}
use Rattle.laws.specs.Tests.{each_tested}
use Rattle.laws.specs.Machine.{abs_fits}
use Rattle.laws.specs.Sums.{Each, each_append}
use Rattle.steps.specs.Limits.{gain_limit, slots, symbol_limit}
use Rattle.steps.specs.Settings.{Settings, is_entry}
use Rattle.checks.specs.Checks.{Buffers, lengths, lengths_fit, gain_fits, check_number}
use Rattle.block.specs.Calls.{OutputsLong}
use Rattle.state.specs.State.{settings}
use Rattle.state.specs.Answers.{examined}
use Rattle.checks.specs.Calls.{Sampled, Checked}
use Rattle.state.specs.declared.equaliser.Equaliser.{Equaliser}
use Rattle.state.proofs.SizesLaws.{fit_within}
use Rattle.state.proofs.SoundLaws.{examined_tests, accepted_sound}

-- ---- the number, check by check

module _ (e : Equaliser) (l : Buffers) where
  pub state_fails : (n : ℕ) → n ≡ examined e → (n ≡ 0 → ⊥) → n ≡ check_number e l
  unfolding check_number
  state_fails n h f = simp (ne_eqb (examined e) 0 (λ z. f (h ∙ z))) h

  module _ (sound : examined e ≡ 0) where
    pub lengths_fail : lengths_fit e.n l ≡ false → 3 ≡ check_number e l
    unfolding check_number
    lengths_fail h = simp (sound, h)

    pub gains_fail : lengths_fit e.n l ≡ true → all (gain_fits e.l) l.block.gains ≡ false → 4 ≡ check_number e l
    unfolding check_number
    gains_fail h g = simp (sound, h, g)

    pub entries_fail : lengths_fit e.n l ≡ true → all (gain_fits e.l) l.block.gains ≡ true → all (is_entry e.r) l.block.entries ≡ false → 5 ≡ check_number e l
    unfolding check_number
    entries_fail h g f = simp (sound, h, g, f)

    pub checks_pass : lengths_fit e.n l ≡ true → all (gain_fits e.l) l.block.gains ≡ true → all (is_entry e.r) l.block.entries ≡ true → 0 ≡ check_number e l
    unfolding check_number
    checks_pass h g f = simp (sound, h, g, f)

-- of an accepted state: 0, 3, 4 or 5
pub check_number_lem : (e : Equaliser) (l : Buffers) (P : ℕ → Type 0) → examined e ≡ 0 → P 0 → P 3 → P 4 → P 5 → P (check_number e l)
unfolding check_number
check_number_lem e l P h pass lengths gains entries = rw h (go (lengths_fit e.n l) (all (gain_fits e.l) l.block.gains) (all (is_entry e.r) l.block.entries))
  where
    go : (a b c : Bool) → P (cond a (cond b (cond c 0 5) 4) 3)
    go true true true = pass
    go true true false = entries
    go true false c = gains
    go false b c = lengths

-- of another state and other lists that every check finds the same
pub check_same : (e e' : Equaliser) (l l' : Buffers) → settings e' ≡ settings e → examined e' ≡ examined e → lengths_fit e.n l' ≡ lengths_fit e.n l → l'.block.gains ≡ l.block.gains → l'.block.entries ≡ l.block.entries →
    check_number e' l' ≡ check_number e l
unfolding check_number
check_same e e' l l' k x f g v = rw (x, ap (λ (c : Settings). c.N) k, ap (λ (c : Settings). c.L) k, ap (λ (c : Settings). c.r) k, f, g, v)

pub symbols_most : (e : Equaliser) → 0 ≡ examined e → e.r ≤ symbol_limit
symbols_most e h = (fit_within (settings e) (examined_tests e (sym h)).0).r_most

-- one check after the other
pub ruleset checks = (state_fails, lengths_fail, gains_fail, entries_fail, checks_pass, symbols_most)

-- ---- the samples that are read

pub sampled_next : (m : List ℤ) (i : ℕ) → Sampled (take i m) → i < length m → SFits w16 (get_or m i (pos 0)) → Sampled (take (i + 1) m)
sampled_next m i s h f = rw (add-one, take-suc m i (pos 0) h) (each_append _ (take i m) (get_or m i (pos 0) ∷ []) s (abs_fits f, tt))

pub sampled_all : (m : List ℤ) (i : ℕ) → Sampled (take i m) → length m ≤ i → Sampled m
sampled_all m i s h = subst Sampled (take_all i m h) s

-- ---- what holds where it is 0

four : (n : ℕ) (t a b c : Bool) → eqb n 0 ≡ t → cond t (cond a (cond b (cond c 0 5) 4) 3) n ≡ 0 → (n ≡ 0) × (a ≡ true) × (b ≡ true) × (c ≡ true)
four n true true true true f h = (eqb-true n 0 f, refl, refl, refl)
four n true true true false f h = absurd (omega arith)
four n true true false c f h = absurd (omega arith)
four n true false b c f h = absurd (omega arith)
four n false a b c f h = absurd (eqb-false n 0 f h)

module _ (e : Equaliser) (l : Buffers) (passed : check_number e l ≡ 0) where
  pub check_tests : (examined e ≡ 0) × (lengths_fit e.n l ≡ true) × (all (gain_fits e.l) l.block.gains ≡ true) × (all (is_entry e.r) l.block.entries ≡ true)
  unfolding check_number
  check_tests = four (examined e) (eqb (examined e) 0) (lengths_fit e.n l) (all (gain_fits e.l) l.block.gains) (all (is_entry e.r) l.block.entries) refl passed

  -- every list is N long
  long : Each (λ (n : ℕ). n ≡ e.n) (lengths l)
  long = each_tested (λ (n : ℕ). eqb n e.n) _ (λ n h. eqb-true n e.n h) (lengths l) check_tests.1

  pub outputs_long : OutputsLong (settings e) l.outputs
  outputs_long =
      let t = long.1.1.1 in
      record { y_long = t.0; xi_long = t.1.0; decision_long = t.1.1.0; z_long = t.1.1.1.0; theta_long = t.1.1.1.1.0 }

  pub checked_is : length e.weights ≡ slots → length e.past ≡ slots → Sampled l.block.samples → Checked e l.block
  checked_is w d m =
      let t = check_tests in
      record {
        sizes = (examined_tests e t.0).0;
        sound_state = (examined_tests e t.0).2;
        sound = accepted_sound (record { weights_long = w; past_long = d; number = t.0 });
        acceptable = record {
          samples_long = long.0;
          gains_long = long.1.0;
          entries_long = long.1.1.0;
          samples_are = m;
          gains_least = each_tested (gain_fits e.l) _ (λ g h. leb-true e.l g (and_left (leb e.l g) (leb g gain_limit) h)) l.block.gains t.2;
          gains_most = each_tested (gain_fits e.l) _ (λ g h. leb-true g gain_limit (and_right (leb e.l g) (leb g gain_limit) h)) l.block.gains t.2;
          entries_are = each_tested (is_entry e.r) _ (λ v h. h) l.block.entries t.3;
        };
      }
