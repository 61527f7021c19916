-- Halved where the bits of all weights reach the halving limit; else kept, or doubled where ψ can fall and they are below the doubling limit.
-- Each test goes through arithmetic: so a wrong limit fails first where it is wrong.
use native.Mathlib.Omega.{arith}
use Rattle.filter.proofs.SampleLaws.{normalised_halved, normalised_lowest, normalised_kept, all_doublable, normalised_doubled}
use Rattle.filter.proofs.weights.Weights.normalise.Goals as goal

pub returns-then-seen-ge-HALVING-clause-normalised : goal.returns-then-seen-ge-HALVING-clause-normalised
returns-then-seen-ge-HALVING-clause-normalised c = normalised_halved _ _ c.requires.1 (omega (arith, c.if-seen-ge-HALVING.true)) c.halve.ensures.halved

pub returns-then-psi-eq0-clause-normalised : goal.returns-then-psi-eq0-clause-normalised
returns-then-psi-eq0-clause-normalised c = normalised_lowest _ _ c.requires.1 (omega (arith, c.if-seen-ge-HALVING.false)) c.if-psi-eq0.true

pub returns-then-seen-ge-DOUBLING-clause-normalised : goal.returns-then-seen-ge-DOUBLING-clause-normalised
returns-then-seen-ge-DOUBLING-clause-normalised c = normalised_kept _ _ c.requires.1 (omega (arith, c.if-seen-ge-HALVING.false)) (omega (arith, c.if-seen-ge-DOUBLING.true))

pub double-requires : goal.double-requires
double-requires c = all_doublable _ _ c.requires.1 (omega (arith, c.if-seen-ge-DOUBLING.false))

pub returns-clause-normalised : goal.returns-clause-normalised
returns-clause-normalised c = normalised_doubled _ _ c.requires.1 (omega (arith, c.if-seen-ge-HALVING.false)) c.if-psi-eq0.false (omega (arith, c.if-seen-ge-DOUBLING.false)) c.double.ensures.doubled
