-- The number of each refusal, and the cause of a 10.
use Rattle.std.specs.Prelude.{ℕ, Result, Ok, Err}
use Rattle.state.specs.Refusal as State
use Rattle.cable_trace.specs.declared.refusal.CableRefusal.{CableRefusal}
use Rattle.cable_trace.specs.declared.refusal.CableRefusal.TheVariants.{Settings, Response, Blocks, Training, Length, Entry, Output, Gain}

abbrev pub number_of : CableRefusal → ℕ
number_of (Settings r) = State.number_of r
number_of Response = 10
number_of Blocks = 10
number_of Training = 10
number_of Length = 10
number_of Entry = 10
number_of Output = 10
number_of Gain = 10

-- 1 to 7 beside a 10, else 0
abbrev pub cause_of : CableRefusal → ℕ
cause_of (Settings r) = 0
cause_of Response = 1
cause_of Blocks = 2
cause_of Training = 3
cause_of Length = 4
cause_of Entry = 5
cause_of Output = 6
cause_of Gain = 7

-- of a result: 0, or the number of the refusal and its cause
abbrev pub number_in : Result (Unit {0}) CableRefusal → ℕ
number_in (Ok u) = 0
number_in (Err x) = number_of x

abbrev pub cause_in : Result (Unit {0}) CableRefusal → ℕ
cause_in (Ok u) = 0
cause_in (Err x) = cause_of x
