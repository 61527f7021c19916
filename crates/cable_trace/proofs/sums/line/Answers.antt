-- One symbol a turn, into the place before the last one.
use mathlib.Core.Path.{◌≡◌, refl}
use borrow.Author.Rules.{rules}
use lib.ListN.{get_or}
use lib.IntN.{pos}
use mir.Syntax.{w16}
use mir.Val.{to_z, of_z}
use Rattle.cable_trace.proofs.LineLaws.{lined_none, lined_next, lined_all}
use Rattle.cable_trace.proofs.sums.line.Goals as goal

pub loop-i-init : goal.loop-i-init
loop-i-init c = lined_none c.args.symbols.now c.args.line.now c.requires.0 c.requires.1

pub loop-i-preserved : goal.loop-i-preserved
loop-i-preserved c =
    let e : to_z w16 (of_z w16 c.from.result) ≡ get_or c.args.symbols.now c.loop-i.i (pos 0) = search rules in
    lined_next c.loop-i.invariant _ _ c.loop-i-test.true refl e

pub returns : goal.returns
returns c = lined_all c.loop-i.invariant c.loop-i-test.false
