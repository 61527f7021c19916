-- A line: what a block adds stands before place block_limit, newest first; what was there before the block stands from there on.
use Rattle.std.specs.Prelude.{List, ℕ, zero, suc, ◌-◌, length, get_or, take, drop, set, ℤ, pos}
use Rattle.std.proofs.Math.Seq.{paste}
use Rattle.steps.specs.Limits.{block_limit}

-- the place of sample n
abbrev pub place : ℕ → ℕ
place n = block_limit - 1 - n

-- the newest p when n are added
abbrev pub newest : ℕ → ℕ → List ℤ → List ℤ
newest p n line = take p (drop (block_limit - n) line)

-- the old ones in their places
abbrev pub started : List ℤ → List ℤ → List ℤ
started old line = paste line block_limit old (length old)

-- the first n of the new ones in their places
unfoldable pub added : ℕ → List ℤ → List ℤ → List ℤ
added zero new line = line
added (suc n) new line = set (added n new line) (place n) (get_or new n (pos 0))
