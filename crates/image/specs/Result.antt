-- What a save answers as a number beside a length.
use Rattle.std.specs.Prelude.{ℕ, Result, Ok, Err}
use Rattle.state.specs.Refusal.{number_of}
use Rattle.state.specs.declared.refusal.Refusal.{Refusal}
use Rattle.image.specs.declared.save.Saved.{Saved}

abbrev pub saved_of : Result ℕ Refusal → Saved
saved_of (Ok n) = record { number = 0; length = n }
saved_of (Err x) = record { number = number_of x; length = 0 }
