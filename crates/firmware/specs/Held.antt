-- What the contracts of the calls for C say of a record that is held.
use Rattle.std.specs.Prelude.{◌≡◌, List, ℕ}
use Rattle.block.specs.Block.{Outputs}
use Rattle.image.specs.Image.{Save}
use Rattle.image.specs.declared.save.Saved.{Saved}
use Rattle.state.specs.declared.equaliser.Equaliser.{Equaliser}
use Rattle.state.specs.declared.equaliser.Answer.{Answer}
use Rattle.checks.specs.Checks.{Buffers}
use Rattle.station.specs.Answers.{Run}

-- running a block in place on the record s: its number, the record after it, and the lists after it
abbrev pub InPlace : Equaliser → Buffers → ℕ → Equaliser → Outputs → Type 0
InPlace s l n s' h = Run s l (record { number = n; state = s' }) h

-- a trial on the record s: its answer, the record after it, and the lists after it
abbrev pub Trial : Equaliser → Buffers → Answer → Equaliser → Outputs → Type 0
Trial s l a s' h = Run s l a h × (s' ≡ s)

-- saving the record s: its answer, the record after it, and the buffer after it
abbrev pub Saving : Equaliser → List ℕ → Saved → Equaliser → List ℕ → Type 0
Saving s before a s' after = Save s before a after × (s' ≡ s)
