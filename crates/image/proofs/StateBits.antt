-- Each weight and each datum of a sound state fits its bytes.
use mathlib.Core.Path.{◌≡◌, refl, sym, ap, ◌∙◌, subst}
use mathlib.Core.Bool.{true}
use mathlib.Core.List.{List, [], ◌∷◌, ◌++◌}
use Prim.Native.Nat.{ℕ, suc, ◌+◌, ◌*◌, ◌-◌, ◌^◌, ◌≤◌, ◌<◌}
use native.Mathlib.Omega.{arith}
use native.Mathlib.Nat.{mul-le-mul_left, lt_of_le_of_lt, lt_of_lt_of_le}
use lib.ListN.{take, drop}
use lib.Seq.{take-add, take-suc}
use lib.IntN.{ℤ, pos, nat_abs}
use mir.Val.{SFits}
use borrow.Author.Tests.{eqb-true}
use Rattle.laws.specs.Lists.{all, and_right}
use Rattle.laws.specs.Machine.{fits_abs}
use Rattle.laws.specs.Powers.{rises, lower}
use Rattle.laws.specs.Sums.{Each, each_append, each_weaken}
use Rattle.steps.specs.Limits.{data_unit, symbol_limit}
use Rattle.steps.specs.Settings.{scale_forward, is_entry}
use Rattle.steps.specs.Fir.{Small, all_small}
use Rattle.block.specs.Sound.{Sound}
use Rattle.steps.proofs.SymbolLaws.{entry_below}
use Rattle.state.specs.State.{settings, memory, taps, forward, back, samples, filler, symbols, is_zero}
use Rattle.state.specs.Answers.{examined}
use Rattle.state.specs.declared.equaliser.Equaliser.{Equaliser}
use Rattle.image.specs.Layout.{weight_word, datum_word}
use Rattle.state.proofs.SoundLaws.{Accepted, accepted_sound, examined_tests, sound_tests, past_tests}

-- |A|·2^(B+s) < 2^(15+b) with b ≤ B
stored_fits : (n B s b : ℕ) → b ≤ B → n * 2 ^ (B + s) < 2 ^ (data_unit + b) → n < 2 ^ data_unit
stored_fits n B s b h k =
    lower n (data_unit + B) data_unit B refl
    (lt_of_le_of_lt (mul-le-mul_left n (rises {a = B} {b = B + s} (omega arith))) (lt_of_lt_of_le k (rises {a = data_unit + b} {b = data_unit + B} (omega arith))))

entry_fits : (r : ℕ) (v : ℤ) → r ≤ symbol_limit → is_entry r v ≡ true → nat_abs v < 2 ^ 15
entry_fits r v h e = lt_of_lt_of_le (entry_below r v e) (rises {a = r + 1} {b = 15} (omega arith))

-- every spare slot is 0
pub spare_zero : (e : Equaliser) → examined e ≡ 0 → (all is_zero (drop (taps e) e.weights) ≡ true) × (all is_zero (drop (taps e) e.past) ≡ true)
spare_zero e ok =
    let t = sound_tests e (examined_tests e ok).2 in
    (and_right (all_small (take (taps e) e.weights)) (all is_zero (drop (taps e) e.weights)) t.1, (past_tests e t.2).3)

module _ (e : Equaliser) (a : Accepted e) where
  sound : Sound (settings e) (memory e)
  sound = accepted_sound a

  pub weights_bits : Each (SFits weight_word) (take (taps e) e.weights)
  weights_bits =
      subst (Each (SFits weight_word)) (sym (take-add e.p e.q e.weights))
      (each_append (SFits weight_word) (forward e) (back e) (small (forward e) sound.forward_small) (small (back e) sound.back_small))
    where
      small : (l : List ℤ) → Each Small l → Each (SFits weight_word) l
      small l h = each_weaken Small (SFits weight_word) (λ z f. fits_abs z (omega arith)) l h

  filler_zero : nat_abs (filler e) ≡ 0
  filler_zero = eqb-true (nat_abs (filler e)) 0 (past_tests e (sound_tests e (examined_tests e a.number).2).2).1

  -- the samples and the filler
  front : take e.p e.past ≡ samples e ++ filler e ∷ []
  front = ap (λ (k : ℕ). take k e.past) last ∙ take-suc e.past (e.p - 1) (pos 0) (omega (arith, sound.within.p_least, sound.within.p_most))
    where
      last : e.p ≡ suc (e.p - 1)
      last = omega (arith, sound.within.p_least)

  pub past_bits : Each (SFits datum_word) (take (taps e) e.past)
  past_bits =
      subst (Each (SFits datum_word)) (sym (take-add e.p e.q e.past ∙ ap (λ (l : List ℤ). l ++ symbols e) front))
      (each_append (SFits datum_word) (samples e ++ filler e ∷ []) (symbols e)
      (each_append (SFits datum_word) (samples e) (filler e ∷ [])
      (each_weaken _ (SFits datum_word) (λ a h. fits_abs a (stored_fits (nat_abs a) e.bmax (scale_forward (settings e)) e.b sound.b_most h)) (samples e) sound.samples_small)
      (fits_abs (filler e) (omega (arith, filler_zero)), tt))
      (each_weaken _ (SFits datum_word) (λ v h. fits_abs v (entry_fits e.r v sound.within.r_most h)) (symbols e) sound.symbols_are))
