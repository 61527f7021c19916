-- What running a block answers: a refusal, or what an accepted block leaves and hands out.
use mathlib.Core.Path.{◌≡◌, refl, sym, ap, ◌∙◌}
use mathlib.Core.Bool.{Bool, true, false, cond}
use Prim.Native.Nat.{ℕ}
use native.Mathlib.Omega.{arith}
use lib.Dec.{eqb}
use borrow.Author.Tests.{ne_eqb, eq-eqb, eqb-true, eqb-false}
use Rattle.block.specs.Block.{Outputs, ψFits, block_outputs}
use Rattle.std.specs.Prelude.{Err}
use Rattle.state.specs.Refusal.{number_of, answer_with}
use Rattle.state.specs.State.{settings, memory}
use Rattle.state.specs.declared.refusal.Refusal.{Refusal}
use Rattle.state.proofs.RefusalLaws.{number_least}
use Rattle.station.specs.Answers.{run_number, run_state, if_accepted, run_outputs, Run}
use Rattle.station.specs.Calls.{ψFitsBlock, RunChecked, outputs_or}
use Rattle.state.specs.declared.equaliser.Answer.{Answer}
use Rattle.checks.specs.Checks.{Buffers, check_number}
use Rattle.state.specs.declared.equaliser.Equaliser.{Equaliser}

-- what is chosen where a block is accepted, and where it isn't
module _ {A : Type 0} (e : Equaliser) (l : Buffers) (new old : A) where
  pub accepted_new : run_number e l ≡ 0 → if_accepted e l new old ≡ new
  accepted_new ok = ap (λ (b : Bool). cond b new old) (eq-eqb (run_number e l) 0 ok)

  pub accepted_old : (run_number e l ≡ 0 → ⊥) → if_accepted e l new old ≡ old
  accepted_old f = ap (λ (b : Bool). cond b new old) (ne_eqb (run_number e l) 0 f)

-- the lists of an accepted block, and of one that isn't
module _ (e : Equaliser) (l : Buffers) where
  pub outputs_new : run_number e l ≡ 0 → run_outputs e l ≡ block_outputs (settings e) (memory e) l.block
  outputs_new ok = accepted_new e l _ _ ok

  pub outputs_old : (run_number e l ≡ 0 → ⊥) → run_outputs e l ≡ l.outputs
  outputs_old f = accepted_old e l _ _ f

pub run_tests : (e : Equaliser) (l : Buffers) → run_number e l ≡ 0 → (check_number e l ≡ 0) × (ψFits (settings e) (memory e) l.block e.n ≡ true)
unfolding run_number
run_tests e l h = go (check_number e l) (eqb (check_number e l) 0) (ψFits (settings e) (memory e) l.block e.n) refl h
  where
    go : (n : ℕ) (t a : Bool) → eqb n 0 ≡ t → cond t (cond a 0 6) n ≡ 0 → (n ≡ 0) × (a ≡ true)
    go n true true f h = (eqb-true n 0 f, refl)
    go n true false f h = absurd (omega arith)
    go n false a f h = absurd (eqb-false n 0 f h)

module _ (e : Equaliser) (l : Buffers) where
  -- ---- the number

  pub check_fails : (n : ℕ) → n ≡ check_number e l → (n ≡ 0 → ⊥) → n ≡ run_number e l
  unfolding run_number
  check_fails n h f = simp (ne_eqb (check_number e l) 0 (λ z. f (h ∙ z))) h

  -- ---- everything as it was

  pub refused : (n : ℕ) → n ≡ run_number e l → (n ≡ 0 → ⊥) → Run e l (record { number = n; state = e }) l.outputs
  unfolding run_state
  refused n h f = let g : run_number e l ≡ 0 → ⊥ = λ z. f (h ∙ z) in record { number = h; state = sym (accepted_old e l _ e g); outputs = sym (outputs_old e l g) }

  pub check_refused : (x : Refusal) → number_of x ≡ check_number e l → Run e l (answer_with e (Err x)) l.outputs
  check_refused x h = let f : number_of x ≡ 0 → ⊥ = λ z. omega (arith, number_least x) in refused (number_of x) (check_fails (number_of x) h f) f

  -- ---- a block that passed the checks

  module _ (c : check_number e l ≡ 0) where
    pub number_is : cond (ψFitsBlock e l.block) 0 6 ≡ run_number e l
    unfolding run_number
    number_is = simp c

    pub ψ_fits_accepted : {A : Type 0} (new old : A) → cond (ψFitsBlock e l.block) new old ≡ if_accepted e l new old
    ψ_fits_accepted new old = rw (sym number_is) (go (ψFitsBlock e l.block))
      where
        go : (b : Bool) → cond b new old ≡ cond (eqb (cond b 0 6) 0) new old
        go true = refl
        go false = refl

    pub answered : {areas areas' : Outputs} {a : Answer} {l' : Outputs} → RunChecked e l.block areas a areas' → l' ≡ outputs_or e l.block l.outputs →
        Run e l a l'
    unfolding run_state
    answered h o = record { number = h.number ∙ number_is; state = h.state ∙ ψ_fits_accepted _ e; outputs = o ∙ ψ_fits_accepted _ l.outputs }
