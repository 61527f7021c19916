-- A whole number is shifted as it is, a negative one after it is raised.
use mir.Syntax.{w32}
use Rattle.numbers.proofs.CutLaws.{cut_whole, cut_negative}
use Rattle.numbers.proofs.cut.I32Register.cut.Goals as goal
use Rattle.numbers.proofs.cut.I32Register.cut.Goals.{then-self-lt0, else-self-lt0}

pub returns : goal.returns
returns c =
    let a = c.args in
    elim c.if-self-lt0.branch [
      | then-self-lt0 v ↦ cut_negative w32 a.self a.k c.ranges.self c.requires v.if-self-lt0.true _ v.lifted-is
      | else-self-lt0 v ↦ cut_whole w32 a.self a.k c.ranges.self v.if-self-lt0.false _ v.lifted-is
    ]
