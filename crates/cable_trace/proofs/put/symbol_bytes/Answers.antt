-- One entry a turn.
use mathlib.Core.Path.{◌≡◌}
use native.Mathlib.Omega.{arith}
use borrow.Author.Rules.{rules}
use mir.Syntax.{w8}
use mir.Val.{of_z}
use lib.ListN.{get_or}
use lib.IntN.{pos}
use Rattle.laws.specs.Values.{values_written, values_all}
use Rattle.cable_trace.proofs.put.symbol_bytes.Goals as goal

pub loop-i-preserved : goal.loop-i-preserved
loop-i-preserved c =
    let e : c.cast_unsigned.result ≡ of_z w8 (get_or c.args.symbols.now c.loop-i.i (pos 0)) = search rules in
    values_written _ _ c.loop-i.invariant 0 _ (omega (arith, c.requires, c.loop-i-test.true)) c.loop-i-test.true e

pub returns : goal.returns
returns c = values_all _ _ c.loop-i.invariant c.requires (omega (arith, c.requires, c.loop-i-test.false))
