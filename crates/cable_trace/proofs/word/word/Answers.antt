-- The sample's 16 bits, and its gain above them.
use mathlib.Core.Path.{◌≡◌, refl, ap, ap₂, ◌∙◌}
use Prim.Native.Nat.{ℕ, ◌+◌, ◌*◌, ◌^◌, ◌<◌}
use native.Mathlib.Omega.{arith}
use lib.IntN.{pos}
use mir.Syntax.{w16, w32}
use mir.Val.{SFits, of_z}
use mir.Facts.{to_z-of_z, to_z_pos}
use Rattle.laws.specs.Machine.{kept}
use Rattle.cable_trace.specs.Cable.{gain, sample}
use Rattle.cable_trace.specs.Calls.{float_bits, gain_unit, gain_of}
use Rattle.cable_trace.proofs.GainLaws.{small, exponent_bits, sample_fits, gain_bits, gain_of_lem, gain_most}
use Rattle.cable_trace.proofs.word.word.Goals as goal
use Rattle.cable_trace.proofs.word.word.Goals.{After-gain}

pub float_bits-b-requires : goal.float_bits-b-requires
float_bits-b-requires c = simp (to_z-of_z c.ranges.s) (small c.args.r c.args.s c.requires)

-- ---- m
pub sample-requires : goal.sample-requires
sample-requires c = simp (to_z-of_z c.ranges.s) (c.requires, c.float_bits-b.ensures ∙ simp (to_z-of_z c.ranges.s), refl)

fits : (c : goal.After-sample) → SFits w16 c.sample.result
fits c = sample_fits c.args.r c.args.s c.requires c.sample.result (c.sample.ensures ∙ simp (to_z-of_z c.ranges.s))

pub overflow_cast-sample : goal.overflow_cast-sample
overflow_cast-sample c = rw (kept w32 c.sample.result c.sample.type_inv) (fits c)

lower : (c : After-gain) → c.from.result ≡ of_z w16 (sample c.args.r c.args.s)
lower c =
    let e : c.sample.result ≡ sample c.args.r c.args.s = c.sample.ensures ∙ simp (to_z-of_z c.ranges.s) in
    c.from.ensures ∙ c.cast_unsigned-m.ensures ∙ simp (kept w32 c.sample.result c.sample.type_inv, to_z-of_z (sample_fits c.args.r c.args.s c.requires c.sample.result e)) (ap (of_z w16) e)

-- ---- the gain
pub gain-requires : goal.gain-requires
gain-requires c =
    let a = c.args in
    let e : c.float_bits-b.result ≡ float_bits a.s = c.float_bits-b.ensures ∙ simp (to_z-of_z c.ranges.s) in
    (c.requires.r_most, omega (arith, exponent_bits a.r a.s c.requires c.float_bits-b.result e, gain_bits a.r a.s c.requires.has))

gained : (c : After-gain) → c.gain.result ≡ gain c.args.r c.args.s
gained c =
    let a = c.args in
    let e : c.float_bits-b.result ≡ float_bits a.s = c.float_bits-b.ensures ∙ simp (to_z-of_z c.ranges.s) in
    c.gain.ensures ∙ ap (gain_of a.r) (exponent_bits a.r a.s c.requires c.float_bits-b.result e).0 ∙ gain_of_lem a.r a.s c.requires

-- ---- both
below : (c : After-gain) → c.from.result + gain_unit * c.gain.result < 2 ^ 31
below c = omega (arith, gained c, gain_most c.args.r c.args.s, c.from.ensures, c.cast_unsigned-m.type_inv)

pub returns : goal.returns
returns c =
    let g = (goal.at.returns c).After-gain in
    kept w32 _ c.cast_signed.type_inv ∙ c.cast_signed.ensures ∙ to_z_pos w32 (below g) ∙ ap₂ (λ (m g : ℕ). pos (m + gain_unit * g)) (lower g) (gained g)

pub overflow_mul-gain : goal.overflow_mul-gain
overflow_mul-gain c = record { fits = omega (arith, below c) }

pub overflow_add-from : goal.overflow_add-from
overflow_add-from c = record { fits = omega (arith, below c) }
