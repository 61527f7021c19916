-- The numbers of refusals, and the settings of the states that the operations make.
use mathlib.Core.Path.{◌≡◌, refl}
use mathlib.Core.Bool.{Bool, true, false, cond}
use Prim.Native.Nat.{◌≤◌}
use native.Mathlib.Omega.{arith}
use lib.Dec.{eqb}
use Rattle.steps.specs.Settings.{Settings}
use Rattle.state.specs.Sizes.{sizes_fit, admits, settings_number}
use Rattle.state.specs.State.{settings, is_sound, fresh}
use Rattle.state.specs.Answers.{examined}
use Rattle.state.specs.declared.equaliser.Equaliser.{Equaliser}

-- ---- numbers

pub settings_most : (k : Settings) → settings_number k ≤ 9
unfolding settings_number
settings_most k = go (sizes_fit k) (admits k)
  where
    go : (a b : Bool) → cond a (cond b 0 2) 1 ≤ 9
    go true true = omega arith
    go true false = omega arith
    go false b = omega arith

pub examined_most : (e : Equaliser) → examined e ≤ 9
unfolding examined
examined_most e = go (eqb (settings_number (settings e)) 0) (is_sound e)
  where
    go : (t c : Bool) → cond t (cond c 0 9) (settings_number (settings e)) ≤ 9
    go true true = omega arith
    go true false = omega arith
    go false c = settings_most (settings e)

-- ---- settings

pub fresh_settings : (k : Settings) → settings (fresh k) ≡ k
unfolding fresh
fresh_settings k = refl
