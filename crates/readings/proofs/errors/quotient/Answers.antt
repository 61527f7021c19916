-- Both numbers are exact, and one division rounds.
use Rattle.readings.proofs.ValueLaws.{quotient_is}
use Rattle.readings.proofs.errors.quotient.Goals as goal

pub returns : goal.returns
returns c = let r = c.requires in quotient_is c.args.sum c.args.n r.0 r.1 r.2
