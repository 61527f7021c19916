-- The check, then the readings and the power.
use mathlib.Core.Path.{sym, ◌∙◌}
use lib.ListN.{length}
use Rattle.std.proofs.Common.{rules}
use Rattle.readings.specs.Lent.{lists_in}
use Rattle.readings.proofs.ReadableLaws.{readable_says, sum_fits, power_given, refused, given}
use Rattle.readings.proofs.readings.Goals as goal

pub returns-then-not-readable : goal.returns-then-not-readable
returns-then-not-readable c = refused (lists_in c.args.lists) c.args.out.now (search rules)

pub fill-s-requires : goal.fill-s-requires
fill-s-requires c = (readable_says (sym c.readable.ensures ∙ c.if-not-readable.false)).fill

pub power-requires : goal.power-requires
power-requires c =
    let is = sym c.readable.ensures ∙ c.if-not-readable.false in
    rw c.fill-s.ensures.1 (sum_fits (lists_in c.args.lists) (length c.args.out.now) is)

pub returns : goal.returns
returns c =
    let l = lists_in c.args.lists in
    let out = c.args.out.now in
    let is = sym c.readable.ensures ∙ c.if-not-readable.false in
    rw (c.power.ensures, c.fill-s.ensures.1, c.fill-s.ensures.0, power_given l (length out) is) (given l out is)
