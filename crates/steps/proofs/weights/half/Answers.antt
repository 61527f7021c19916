-- Half of a number of 16 bits fits them.
use Rattle.std.proofs.Common.{refl, arith, rules, ℤ, w16, SFits}
use Rattle.laws.specs.Machine.{fits_abs, abs_fits}
use Rattle.numbers.specs.Cut.{cut}
use Rattle.numbers.proofs.CutLaws.{cut_lt}
use Rattle.steps.proofs.weights.half.Goals as goal

half_fits : (w : ℤ) → SFits w16 w → SFits w16 (cut w 1)
half_fits w f = fits_abs (cut w 1) (cut_lt w 16 15 1 refl (omega (arith, abs_fits f)))

pub overflow_cast-result : goal.overflow_cast-result
overflow_cast-result c = search (rules, half_fits)

pub returns : goal.returns
returns c = search (rules, half_fits)
