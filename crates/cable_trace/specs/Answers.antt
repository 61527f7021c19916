-- What the cable simulator answers, and the lent output at the end.
use Rattle.std.specs.Prelude.{cond, List, ◌≡◌, ℕ, eqb, length, ℤ, Result}
use Rattle.steps.specs.Settings.{Settings}
use Rattle.state.specs.Sizes.{settings_number}
use Rattle.cable_trace.specs.Cable.{Cable, cause, cable_number, cable_trace}
use Rattle.cable_trace.specs.Refusal.{number_in, cause_in}
use Rattle.cable_trace.specs.declared.refusal.CableRefusal.{CableRefusal}

-- the cable of these settings and lists
abbrev pub cable_of : Settings → List ℤ → List ℤ → ℕ → Cable
cable_of k response symbols training = record { settings = k; response = response; symbols = symbols; training = training }

-- the trace of an accepted cable, or what there was
abbrev pub written : Cable → List ℕ → List ℕ
written c before = cond (eqb (cable_number c (length before)) 0) (cable_trace c) before

-- the number, and the output at the end
pub record Output (c : Cable) (before : List ℕ) (number : ℕ) (after : List ℕ) : Type 0 where
  pub number_is : number ≡ cable_number c (length before)
  pub contents : after ≡ written c before

-- with the cause of a 10
pub record Simulation (c : Cable) (before : List ℕ) (a : Result (Unit {0}) CableRefusal) (after : List ℕ) : Type 0 where
  pub output : Output c before (number_in a) after
  pub cause_is : cause_in a ≡ cond (eqb (settings_number c.settings) 0) (cause c (length before)) 0
