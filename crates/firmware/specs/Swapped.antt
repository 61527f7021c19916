-- The swapped pair over the calls for C, by their contracts alone: two records that are a swapped pair, and blocks that both are lent, each run in place or tried at both.
use Rattle.std.specs.Prelude.{List, [], ◌∷◌, ℕ}
use Rattle.block.specs.Block.{Outputs}
use Rattle.state.specs.declared.equaliser.Equaliser.{Equaliser}
use Rattle.state.specs.declared.equaliser.Answer.{Answer}
use Rattle.station.specs.Swapped.{SwappedPair, BuffersOfBoth, SameAnswers}
use Rattle.firmware.specs.Held.{InPlace, Trial}

-- a list of blocks, and all that the calls answer, write and leave in the records
pub data CalledBoth : Equaliser → Equaliser → List BuffersOfBoth → Type 0 where
  end : (s s' : Equaliser) → CalledBoth s s' []
  ran : (s s' : Equaliser) (b : BuffersOfBoth) (bs : List BuffersOfBoth) (n n' : ℕ) (t t' : Equaliser) (h h' : Outputs) →
      InPlace s b.l n t h → InPlace s' b.l' n' t' h' → CalledBoth t t' bs → CalledBoth s s' (b ∷ bs)
  tried : (s s' : Equaliser) (b : BuffersOfBoth) (bs : List BuffersOfBoth) (a a' : Answer) (t t' : Equaliser) (h h' : Outputs) →
      Trial s b.l a t h → Trial s' b.l' a' t' h' → CalledBoth t t' bs → CalledBoth s s' (b ∷ bs)

-- the records before each call and after the last are a swapped pair, both answer and write the same, and so are the states that two trials answer
abbrev pub CalledSwapped : {s s' : Equaliser} {bs : List BuffersOfBoth} → CalledBoth s s' bs → Type 0
CalledSwapped (end s s') = SwappedPair s s'
CalledSwapped (ran s s' b bs n n' t t' h h' r r' c) = SwappedPair s s' × (SameAnswers b.l n h b.l' n' h' × CalledSwapped c)
CalledSwapped (tried s s' b bs a a' t t' h h' r r' c) =
    SwappedPair s s' × (SameAnswers b.l a.number h b.l' a'.number h' × (SwappedPair a.state a'.state × CalledSwapped c))
