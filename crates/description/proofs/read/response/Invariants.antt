use lib.ListN.{length}
use mathlib.Core.List.{List}
use Prim.Native.Nat.{ℕ, ◌+◌, ◌*◌}
use lib.IntN.{ℤ}
use mir.Syntax.{w16}
use mir.Val.{to_z}
use Rattle.laws.specs.Loops.{Written}
use Rattle.laws.specs.Values.{values}
use Rattle.words.specs.Words.{number_at}
use Rattle.description.specs.Description.{description_header_length}
use Rattle.description.proofs.read.response.Given as goal

abbrev value : List ℕ → ℕ → ℤ
value t i = to_z w16 (number_at 2 t (description_header_length + 2 * i))

abbrev pub invariant-loop-i : goal.invariant-loop-i
invariant-loop-i l = Written (values (value l.t) (length l.initial.out)) l.initial.out l.i l.out
