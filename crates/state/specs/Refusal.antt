-- The number of each refusal, and what a result answers as a number beside a state.
use Rattle.std.specs.Prelude.{ℕ, Result, Ok, Err}
use Rattle.state.specs.declared.equaliser.Equaliser.{Equaliser}
use Rattle.state.specs.declared.equaliser.Answer.{Answer}
use Rattle.state.specs.declared.refusal.Refusal.{Refusal}
use Rattle.state.specs.declared.refusal.Refusal.TheVariants.{Size, Step, Length, Gain, Entry, Exponent, Buffer, Bytes, State}

abbrev pub number_of : Refusal → ℕ
number_of Size = 1
number_of Step = 2
number_of Length = 3
number_of Gain = 4
number_of Entry = 5
number_of Exponent = 6
number_of Buffer = 7
number_of Bytes = 8
number_of State = 9

-- the number beside the state that was made, or beside the one that stands with a refusal
abbrev pub answer_with : Equaliser → Result Equaliser Refusal → Answer
answer_with e (Ok s) = record { number = 0; state = s }
answer_with e (Err x) = record { number = number_of x; state = e }
