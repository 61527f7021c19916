-- The library writes as many digits as there are, up to their end.
use mathlib.Core.Path.{◌≡◌, ap, ◌∙◌}
use native.Mathlib.Omega.{arith}
use lib.ListN.{length}
use Rattle.std.specs.Fmt as Library
use Rattle.trace_text.specs.Decimal.{decimal}
use Rattle.trace_text.proofs.DecimalLaws.{digits_printed}
use Rattle.trace_text.proofs.TextAtLaws.{text_same, text_up_to}
use Rattle.trace_text.proofs.line.Text.digits.Goals as goal
use Rattle.trace_text.proofs.line.Text.digits.Goals.{After-from}

printed : (c : After-from) → Library.decimal c.from.result ≡ decimal c.args.n
printed c = ap Library.decimal c.from.ensures ∙ digits_printed c.args.n (omega arith)

pub write_digits-requires : goal.write_digits-requires
write_digits-requires c =
    let e = ap length (printed (goal.at.write_digits-requires c).After-from) in
    (omega (arith, e, c.width-count.ensures), omega (arith, c.width-count.ensures, c.requires))

pub returns-clause-text : goal.returns-clause-text
returns-clause-text c =
    let e = printed (goal.at.returns-clause-text c).After-from in
    let w = c.write_digits.ensures in
    text_same e (text_up_to _ (omega (arith, ap length e, c.width-count.ensures)) w.start w.written w.before)
