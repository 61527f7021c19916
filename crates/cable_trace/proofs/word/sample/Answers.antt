-- By the bit length of |s|.
use mathlib.Core.Path.{sym, ap, ◌∙◌}
use Prim.Native.Nat.{◌-◌, ◌≤◌, ◌<◌}
use native.Mathlib.Omega.{arith}
use lib.IntN.{ℤ, nat_abs}
use mir.Syntax.{w32}
use mir.Facts.{to_z-of_z}
use Rattle.laws.specs.Machine.{kept}
use Rattle.numbers.specs.BitLength.{bit_length}
use Rattle.numbers.specs.Cut.{raise}
use Rattle.steps.specs.Limits.{gain_limit}
use Rattle.cable_trace.specs.Calls.{leading}
use Rattle.cable_trace.proofs.GainLaws.{small, exponent_bits, few_small, bits_some, sample_few, sample_many}
use Rattle.cable_trace.proofs.word.sample.Goals as goal

few : (c : goal.Then-e-r) → bit_length (nat_abs c.args.s) ≤ c.args.r
few c = let a = c.args in omega (arith, exponent_bits a.r a.s c.requires.0 a.b c.requires.1, c.requires.2, c.if-e-r.true)

many : (c : goal.Else-e-r) → c.args.r < bit_length (nat_abs c.args.s)
many c = let a = c.args in omega (arith, exponent_bits a.r a.s c.requires.0 a.b c.requires.1, c.requires.2, c.if-e-r.false)

pub raise-requires : goal.raise-requires
raise-requires c = rw (to_z-of_z c.ranges.s) (omega arith, few_small c.args.r c.args.s c.requires.0 (few c))

pub leading-requires : goal.leading-requires
leading-requires c = rw (to_z-of_z c.ranges.s) (bits_some c.args.s (omega (arith, many c)), small c.args.r c.args.s c.requires.0, c.requires.1)

pub returns-then-e-r : goal.returns-then-e-r
returns-then-e-r c =
    kept w32 c.raise.result c.raise.type_inv ∙ c.raise.ensures ∙ ap (λ (z : ℤ). raise z (gain_limit - c.args.r)) (to_z-of_z c.ranges.s)
    ∙ sym (sample_few c.args.r c.args.s c.requires.0 (few c.before))

pub returns-else-e-r : goal.returns-else-e-r
returns-else-e-r c =
    kept w32 c.leading.result c.leading.type_inv ∙ c.leading.ensures ∙ ap leading (to_z-of_z c.ranges.s)
    ∙ sym (sample_many c.args.r c.args.s c.requires.0 (many c.before))
