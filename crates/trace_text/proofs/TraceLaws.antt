-- The text of a whole trace, in its four cases.
use mathlib.Core.Path.{◌≡◌, sym, ap, ◌∙◌}
use mathlib.Core.Bool.{Bool, true, false, cond}
use mathlib.Core.List.{List}
use Prim.Native.Nat.{ℕ, ◌≤◌}
use native.Mathlib.Omega.{arith}
use lib.ListN.{length}
use borrow.Author.Tests.{eq-eqb, ne_eqb}
use Rattle.steps.specs.Settings.{Settings}
use Rattle.trace_layout.specs.Trace.{settings_in, count_in, well_formed}
use Rattle.state.specs.Sizes.{settings_number}
use Rattle.state.specs.State.{fresh, refused}
use Rattle.state.specs.Answers.{SetUp}
use Rattle.state.specs.declared.equaliser.Equaliser.{Equaliser}
use Rattle.state.specs.declared.equaliser.Answer.{Answer}
use Rattle.state.proofs.SizesLaws.{settings_tests, fit_within}
use Rattle.state.proofs.NumberLaws.{fresh_settings}
use Rattle.trace_text.specs.Text.{stop_line, text_from, trace_text}
use Rattle.trace_text.specs.Calls.{text_limit, Traceable}

-- ---- the text, case by case

module _ (t : List ℕ) where
  pub not_well_formed : well_formed t ≡ false → stop_line 8 0 ≡ trace_text t
  unfolding trace_text
  not_well_formed h = simp h

  module _ (h : well_formed t ≡ true) (a : Answer) (s : SetUp (settings_in t) a) where
    pub refused_text : (a.number ≡ 0 → ⊥) → stop_line a.number 0 ≡ trace_text t
    unfolding trace_text
    refused_text f =
        simp (h, ne_eqb (settings_number (settings_in t)) 0 (λ z. f (s.number ∙ z))) (ap (λ (n : ℕ). stop_line n 0) s.number)

    pub state_is : a.number ≡ 0 → a.state ≡ fresh (settings_in t)
    state_is z = s.state ∙ ap (λ (b : Bool). cond b (fresh (settings_in t)) refused) (eq-eqb (settings_number (settings_in t)) 0 (sym s.number ∙ z))

    pub accepted_text : a.number ≡ 0 → text_from t (count_in t) 0 a.state ≡ trace_text t
    unfolding trace_text
    accepted_text z =
        simp (h, eq-eqb (settings_number (settings_in t)) 0 (sym s.number ∙ z)) (ap (text_from t (count_in t) 0) (state_is z))

    pub traceable : (out : List ℕ) → text_limit ≤ length out → a.number ≡ 0 → Traceable t a.state 0 out
    traceable out room z =
        let n_is : a.state.n ≡ (settings_in t).N = ap (λ (e : Equaliser). e.n) (state_is z) ∙ ap (λ (k : Settings). k.N) (fresh_settings (settings_in t)) in
        record {
          trace = record {
            well_formed_lem = h;
            n_is = n_is;
            n_most = omega (arith, n_is, (fit_within (settings_in t) (settings_tests (settings_in t) (sym s.number ∙ z)).0).N_most);
          };
          room = omega (arith, room);
        }
