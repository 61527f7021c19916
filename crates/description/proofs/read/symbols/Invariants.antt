use lib.ListN.{length}
use mathlib.Core.List.{List}
use Prim.Native.Nat.{ℕ, ◌+◌}
use lib.IntN.{ℤ}
use mir.Syntax.{w8}
use mir.Val.{to_z}
use Rattle.laws.specs.Loops.{Written}
use Rattle.laws.specs.Values.{values}
use Rattle.words.specs.Words.{byte_at}
use Rattle.description.proofs.read.symbols.Given as goal

abbrev symbol : List ℕ → ℕ → ℕ → ℤ
symbol t start i = to_z w8 (byte_at t (start + i))

abbrev pub invariant-loop-i : goal.invariant-loop-i
invariant-loop-i l = Written (values (symbol l.t l.start) (length l.initial.out)) l.initial.out l.i l.out
