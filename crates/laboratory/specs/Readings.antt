-- The answer of the readings for C: an enum can't cross, so it is a number, a flag and a power.
use Rattle.std.specs.Prelude.{◌≡◌, List, length, Float}
use Rattle.readings.specs.Readings.{Lists}
use Rattle.readings.specs.Answers.{output_of, read_number, read_floor, read_value}
use Rattle.laboratory.specs.declared.PowerAnswer.{PowerAnswer}

-- its number and values, and the lent readings before and after
pub record ReadOut (l : Lists) (before : List (List Float)) (a : PowerAnswer) (after : List (List Float)) : Type 0 where
  pub number : a.number ≡ read_number l (length before)
  pub floor : a.is_floor ≡ read_floor l (length before)
  pub power : a.power ≡ read_value l (length before)
  pub output : after ≡ output_of l before
