-- What the operation answers, and what it leaves in lent memory.
use Rattle.std.specs.Prelude.{◌≡◌, false, cond, List, ℕ, pos, length, Float, Result, Ok, Err}
use Rattle.std.specs.Float.{fin}
use Rattle.laws.specs.Lists.{all}
use Rattle.readings.specs.Readings.{Lists, readings_of, amplitudes, is_uncut, squares, quotient, power_of, readable}
use Rattle.readings.specs.declared.Power.TheVariants.{Mean, Floor}
use Rattle.readings.specs.declared.Power.{Power}
use Rattle.readings.specs.declared.Unreadable as Refused

-- the power, or none
abbrev pub ReadAnswer : Type 0
ReadAnswer = Result Power Refused.Unreadable

-- the power, or 11; n is the length of the lent readings
unfoldable pub answer_of : Lists → ℕ → ReadAnswer
answer_of l n = cond (readable l n) (Ok (power_of (amplitudes l.z l.theta))) (Err (record {}))

-- the readings, or what was lent
unfoldable pub output_of : Lists → List (List Float) → List (List Float)
output_of l before = cond (readable l (length before)) (readings_of l) before

-- ---- an answer's number and values

abbrev pub number_of : ReadAnswer → ℕ
number_of (Ok p) = 0
number_of (Err e) = 11

-- 1 where the power is only a floor
abbrev pub floor_of : ReadAnswer → ℕ
floor_of (Ok (Mean x)) = 0
floor_of (Ok (Floor x)) = 1
floor_of (Err e) = 0

-- +0 where there is none
abbrev pub value_in : ReadAnswer → Float
value_in (Ok (Mean x)) = x
value_in (Ok (Floor x)) = x
value_in (Err e) = fin false 0 (pos 0)

-- ---- the contract

-- 0, or 11
abbrev pub read_number : Lists → ℕ → ℕ
read_number l n = cond (readable l n) 0 11

-- 1 where some a was cut
abbrev pub read_floor : Lists → ℕ → ℕ
read_floor l n = cond (readable l n) (cond (all is_uncut (amplitudes l.z l.theta)) 0 1) 0

-- the sum of a² over 65536·N
abbrev pub read_value : Lists → ℕ → Float
read_value l n = cond (readable l n) (quotient (squares (amplitudes l.z l.theta)) n) (fin false 0 (pos 0))

-- an answer with its number and values, and the lent readings before and after
pub record Read (l : Lists) (before : List (List Float)) (a : ReadAnswer) (after : List (List Float)) : Type 0 where
  pub answer : a ≡ answer_of l (length before)
  pub number : number_of a ≡ read_number l (length before)
  pub floor : floor_of a ≡ read_floor l (length before)
  pub value : value_in a ≡ read_value l (length before)
  pub output : after ≡ output_of l before
