-- The header, the weights and the data, each in its part of the buffer.
use Prim.Native.Nat.{◌+◌}
use borrow.Author.Rules.{rules}
use Rattle.image.proofs.ImageLaws.{saved_parts}
use Rattle.image.proofs.save.save.Goals as goal

pub returns : goal.returns
returns c =
    saved_parts c.args.e c.args.buffer.now c.put_header.new.out c.put_words.new.out c.put_words-2.new.out c.current-y.result (c.from.result + c.from-2.result) c.data_place-mid.result c.end_place-end.result
    c.in_ok-examined.ensures (search rules) (search rules) c.current-y.ensures (cc) c.data_place-mid.ensures c.end_place-end.ensures c.if-buffer-end.false c.put_header.ensures c.put_words.ensures c.put_words-2.ensures
