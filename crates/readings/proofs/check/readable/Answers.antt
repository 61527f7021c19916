-- The lengths first, then the values.
use mathlib.Core.Path.{sym, ◌∙◌}
use Rattle.std.proofs.Common.{rules}
use Rattle.readings.specs.Lent.{lists_in}
use Rattle.readings.proofs.ReadableLaws.{readable_short, readable_tests}
use Rattle.readings.proofs.check.readable.Goals as goal

pub returns-then-lengths_readable : goal.returns-then-lengths_readable
returns-then-lengths_readable c =
    let e = readable_tests (lists_in c.args.lists) c.args.n (sym c.lengths_readable.ensures ∙ c.if-lengths_readable.true) in
    rw e (search rules)

pub returns-else-lengths_readable : goal.returns-else-lengths_readable
returns-else-lengths_readable c = search (rules, readable_short)
