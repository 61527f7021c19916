-- What running a block answers: its number is one digit, and its state has the settings that there were.
use mathlib.Core.Path.{◌≡◌, refl}
use mathlib.Core.Bool.{Bool, true, false, cond}
use Prim.Native.Nat.{◌≤◌}
use native.Mathlib.Omega.{arith}
use lib.Dec.{eqb}
use lib.ListN.{length}
use borrow.Author.Tests.{eq-eqb}
use Rattle.steps.specs.Limits.{slots}
use Rattle.block.specs.Block.{ψFits, next_memory}
use Rattle.block.proofs.BlockSound.{next_memory_sound}
use Rattle.state.specs.State.{settings, memory, state_of}
use Rattle.state.specs.declared.equaliser.Equaliser.{Equaliser}
use Rattle.state.proofs.SoundLaws.{Accepted, examined_tests}
use Rattle.state.proofs.KeptLaws.{settings_is, kept_accepted}
use Rattle.checks.specs.Checks.{Buffers, check_number}
use Rattle.checks.specs.Calls.{Sampled}
use Rattle.checks.proofs.CheckLaws.{check_tests, checked_is}
use Rattle.checks.proofs.NumberLaws.{check_most}
use Rattle.station.specs.Answers.{run_number, run_state}
use Rattle.station.proofs.AnswerLaws.{run_tests}

module _ (e : Equaliser) (l : Buffers) where
  pub run_most : run_number e l ≤ 9
  unfolding run_number
  run_most = go (eqb (check_number e l) 0) (ψFits (settings e) (memory e) l.block e.n)
    where
      go : (t a : Bool) → cond t (cond a 0 6) (check_number e l) ≤ 9
      go true true = omega arith
      go true false = omega arith
      go false a = check_most e l

  pub run_settings : settings (run_state e l) ≡ settings e
  unfolding run_state
  run_settings = go (eqb (run_number e l) 0)
    where
      go : (b : Bool) → settings (cond b (state_of (settings e) (next_memory (settings e) (memory e) l.block)) e) ≡ settings e
      go true = settings_is (settings e) (next_memory (settings e) (memory e) l.block)
      go false = refl

  -- an accepted block leaves an accepted state
  module _ (ok : run_number e l ≡ 0) (w : length e.weights ≡ slots) (d : length e.past ≡ slots) (m : Sampled l.block.samples) where
    pub run_accepted : Accepted (run_state e l)
    unfolding run_state
    run_accepted =
        let t = run_tests e l ok in
        let c = checked_is e l t.0 w d m in
        let x = examined_tests e (check_tests e l t.0).0 in
        let next = next_memory_sound (settings e) (memory e) l.block c.sound c.acceptable t.1 in
        rw (eq-eqb (run_number e l) 0 ok) (kept_accepted (settings e) (next_memory (settings e) (memory e) l.block) next x.0 x.1)

    -- both of its arrays have their slots
    pub run_long : (length (run_state e l).weights ≡ slots) × (length (run_state e l).past ≡ slots)
    run_long = (run_accepted.weights_long, run_accepted.past_long)
