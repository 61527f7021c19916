use Rattle.std.proofs.Common.{◌≡◌, ℕ, ◌≤◌, get_or, ℤ, pos}
use Rattle.steps.specs.Sound.{Makes}
use Rattle.steps.proofs.FirLaws.{Adapting}
use Rattle.steps.proofs.weights.adapt_each.Given as goal

abbrev pub invariant-loop-i : goal.invariant-loop-i
invariant-loop-i g l =
    ((n : ℕ) → l.i ≤ n → get_or l.w n (pos 0) ≡ get_or l.fn.w n (pos 0)) × ((k : ℤ) → Makes (goal.F-post g l.new) k l.fn.w l.fn.a → Adapting k l.fn.w l.fn.a l.i l.w l.seen)
