-- The bytes of the line.
use Rattle.description.specs.Texts.{text}
use Rattle.description.specs.Description.{malformed_line}
use Rattle.description.proofs.line.malformed.Goals as goal

pub returns : goal.returns
unfolding malformed_line text
returns c = c.word.ensures
