-- From the rows of the response.
use mathlib.Core.Path.{ap, ◌∙◌}
use mathlib.Core.List.{List}
use lib.ListN.{length}
use lib.IntN.{ℤ}
use Rattle.cable_trace.specs.Calls.{row_sums}
use Rattle.cable_trace.proofs.RowLaws.{rows_summable, row_sums_are}
use Rattle.cable_trace.proofs.sums.sums.Goals as goal

pub row_sums-requires : goal.row_sums-requires
row_sums-requires c = rw c.twice.ensures (rows_summable c.args.h.now c.args.line.now (length c.args.out.now) c.requires)

pub returns : goal.returns
returns c =
    let n = length c.args.out.now in (
      c.row_sums.ensures ∙ ap (λ (l : List ℤ). row_sums l c.args.line.now n) c.twice.ensures ∙ row_sums_are c.args.h.now c.args.line.now n c.requires,
      c.bits.ensures,
    )
