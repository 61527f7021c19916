-- What set-up answers, and what an operation finds of the state that it is given.
use Rattle.std.specs.Prelude.{cond, ◌≡◌, ℕ, eqb}
use Rattle.steps.specs.Settings.{Settings}
use Rattle.state.specs.Sizes.{settings_number}
use Rattle.state.specs.State.{settings, is_sound, fresh, refused}
use Rattle.state.specs.declared.equaliser.Equaliser.{Equaliser}
use Rattle.state.specs.declared.equaliser.Answer.{Answer}

-- ---- set-up

-- a fresh state, or that of a refusal
abbrev pub set_up_state : Settings → Equaliser
set_up_state k = cond (eqb (settings_number k) 0) (fresh k) refused

pub record SetUp (k : Settings) (a : Answer) : Type 0 where
  pub number : a.number ≡ settings_number k
  pub state : a.state ≡ set_up_state k

-- ---- the state that an operation is given: 1, 2, 9, or 0

unfoldable pub examined : Equaliser → ℕ
examined e = cond (eqb (settings_number (settings e)) 0) (cond (is_sound e) 0 9) (settings_number (settings e))
