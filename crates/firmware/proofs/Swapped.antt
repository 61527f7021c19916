-- The swapped pair over the calls for C: what is proved of the definitions holds of whatever their contracts allow.
use mathlib.Core.List.{List}
use Rattle.block.specs.Block.{Outputs}
use Rattle.state.specs.declared.equaliser.Equaliser.{Equaliser}
use Rattle.state.specs.declared.equaliser.Answer.{Answer}
use Rattle.station.specs.Answers.{Run}
use Rattle.station.specs.Swapped.{SwappedPair, BuffersOfBoth, SameAnswers}
use Rattle.station.proofs.Swapped.{same_runs, next_pair}
use Rattle.firmware.specs.Swapped.{CalledBoth, end, ran, tried, CalledSwapped}

module _ {s s' : Equaliser} (p : SwappedPair s s') (b : BuffersOfBoth) {a a' : Answer} {h h' : Outputs} (r : Run s b.l a h) (r' : Run s' b.l' a' h') where
  answers : SameAnswers b.l a.number h b.l' a'.number h'
  answers = rw (r.number, r'.number, r.outputs, r'.outputs) (same_runs s s' p b.l b.l' b.lists)

  pair : SwappedPair a.state a'.state
  pair = rw (r.state, r'.state) (next_pair s s' p b.l b.l' b.lists b.typed b.typed')

pub called_swapped : {s s' : Equaliser} {bs : List BuffersOfBoth} (c : CalledBoth s s' bs) → SwappedPair s s' → CalledSwapped c
called_swapped (end s s') p = p
called_swapped (ran s s' b bs n n' t t' h h' r r' c) p = (p, (answers p b r r', called_swapped c (pair p b r r')))
called_swapped (tried s s' b bs a a' t t' h h' r r' c) p =
    (p, (answers p b r.0 r'.0, (pair p b r.0 r'.0, called_swapped c (rw (r.1, r'.1) p))))
