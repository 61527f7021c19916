-- At 64 bits and more the magnitude is below 2^j.
use mathlib.Core.Path.{sym, ap, ◌∙◌}
use native.Mathlib.Omega.{arith}
use lib.IntN.{ℤ}
use mir.Syntax.{w64}
use mir.Facts.{to_z-of_z}
use borrow.Author.Rules.{sfits_of}
use Rattle.laws.specs.Machine.{abs_fits}
use Rattle.laws.specs.Powers.{rises}
use Rattle.numbers.specs.Cut.{cut}
use Rattle.numbers.proofs.CutLaws.{cut_all}
use Rattle.numbers.proofs.cut.rescale.Goals as goal

pub returns-else-j-lt64 : goal.returns-else-j-lt64
returns-else-j-lt64 c =
    let z = c.raise-raised.result in
    sym (ap (λ (x : ℤ). cut x c.args.j) (sym (c.raise-raised.ensures ∙ simp (to_z-of_z c.ranges.z)))
    ∙ cut_all z c.args.j (omega (arith, abs_fits {w = w64} {z = z} (sfits_of c.raise-raised.type_inv), rises {a = 64} {b = c.args.j} c.if-j-lt64.false)))
