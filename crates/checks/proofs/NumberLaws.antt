-- The number that the checks answer is one digit.
use mathlib.Core.Bool.{Bool, true, false, cond}
use Prim.Native.Nat.{◌≤◌}
use native.Mathlib.Omega.{arith}
use lib.Dec.{eqb}
use Rattle.laws.specs.Lists.{all}
use Rattle.steps.specs.Settings.{is_entry}
use Rattle.state.specs.Answers.{examined}
use Rattle.state.specs.declared.equaliser.Equaliser.{Equaliser}
use Rattle.state.proofs.NumberLaws.{examined_most}
use Rattle.checks.specs.Checks.{Buffers, lengths_fit, gain_fits, check_number}

pub check_most : (e : Equaliser) (l : Buffers) → check_number e l ≤ 9
unfolding check_number
check_most e l = go (eqb (examined e) 0) (lengths_fit e.n l) (all (gain_fits e.l) l.block.gains) (all (is_entry e.r) l.block.entries)
  where
    go : (t a b c : Bool) → cond t (cond a (cond b (cond c 0 5) 4) 3) (examined e) ≤ 9
    go true true true true = omega arith
    go true true true false = omega arith
    go true true false c = omega arith
    go true false b c = omega arith
    go false a b c = examined_most e
