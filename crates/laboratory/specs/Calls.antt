-- What the functions for C ask of each other.
use Rattle.readings.specs.Answers.{ReadAnswer, number_of, floor_of, value_in}
use Rattle.laboratory.specs.declared.PowerAnswer.{PowerAnswer}

-- an answer of the readings as a number, a flag and a power
abbrev pub answered : ReadAnswer → PowerAnswer
answered a = record { number = number_of a; is_floor = floor_of a; power = value_in a }
