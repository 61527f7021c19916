-- The product fits 64 bits. The weight and what it gains are below half of 2^weight_unit, so the sum fits 16 bits.
use Rattle.std.proofs.Common.{◌≡◌, ◌∙◌, arith, rules, ◌+ℤ◌, ◌*ℤ◌, w64, SFits, to_z, of_z, to_z-of_z}
use Rattle.laws.specs.Integers.{abs_mul}
use Rattle.laws.specs.Machine.{fits_abs, sum_kept}
use Rattle.numbers.specs.Cut.{cut}
use Rattle.numbers.proofs.CutLaws.{cut_le}
use Rattle.steps.specs.Limits.{update_shift}
use Rattle.steps.specs.Fir.{adapted}
use Rattle.steps.proofs.IncrementLaws.{adapted_fits}
use Rattle.steps.proofs.weights.adapted.Goals as goal

summed : (c : goal.After-cut) →
    let a = c.args in
    let s = to_z w64 (of_z w64 c.from.result) +ℤ to_z w64 (of_z w64 c.cut.result) in
    SFits w64 s × (to_z w64 (of_z w64 s) ≡ adapted a.k a.w a.a)
summed c =
    let a = c.args in
    let e : c.from.result ≡ a.w = search rules in
    let d : c.cut.result ≡ cut (a.k *ℤ a.a) update_shift = search (rules, fits_abs, abs_mul) in
    sum_kept w64 c.from.type_inv c.cut.type_inv e d (omega (arith, cut_le (a.k *ℤ a.a) update_shift, abs_mul a.k a.a, c.requires))

pub overflow_add-result : goal.overflow_add-result
overflow_add-result c = (summed c).0

pub overflow_cast-result : goal.overflow_cast-result
overflow_cast-result c =
    let a = c.args in
    rw (summed c).1 (fits_abs (adapted a.k a.w a.a) (adapted_fits a.k a.w a.a c.requires.0 c.requires.1))

pub returns : goal.returns
returns c = to_z-of_z (overflow_cast-result c) ∙ (summed c).1
