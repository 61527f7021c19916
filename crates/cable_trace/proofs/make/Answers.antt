-- The symbols in a line, s of each, and the trace where every gain fits.
use mathlib.Core.Path.{◌≡◌, sym, ap, ap₂, ◌∙◌}
use mathlib.Core.List.{List, ◌++◌}
use Prim.Native.Nat.{ℕ, ◌+◌, ◌-◌, ◌≤◌}
use native.Mathlib.Omega.{arith}
use native.Mathlib.Nat.{div-le_self}
use lib.Dec.{leb}
use lib.ListN.{length, take, drop, length-append, length-map}
use lib.Seq.{take_at, length-take-le}
use lib.IntN.{ℤ}
use borrow.Author.Tests.{le-leb, lt-leb}
use Rattle.laws.specs.Lists.{all}
use Rattle.laws.specs.Sums.{Each}
use Rattle.laws.specs.Values.{values_length, values}
use Rattle.numbers.specs.BitLength.{bit_length}
use Rattle.steps.specs.Limits.{data_unit}
use Rattle.steps.specs.Sound.{Within, or_all}
use Rattle.steps.specs.Fir.{magnitudes}
use Rattle.state.proofs.SizesLaws.{settings_tests, fit_within}
use Rattle.cable_trace.specs.Cable.{Cable, s, sample_count, gain_available}
use Rattle.cable_trace.specs.Lent.{cable_in}
use Rattle.cable_trace.specs.Calls.{sums, Gainable, sample_words}
use Rattle.cable_trace.proofs.CauseLaws.{Listed, listed, made_fit, made_off}
use Rattle.cable_trace.proofs.GainLaws.{gains_fit, gains_each}
use Rattle.cable_trace.proofs.LineLaws.{empty_sums_lem}
use Rattle.cable_trace.proofs.SumLaws.{sums_are, line_summable, words_whole, trace_is}
use Rattle.cable_trace.proofs.make.Goals as goal
use Rattle.cable_trace.proofs.make.Goals.{Start, After-empty_sums-sums, After-sums-bits, After-bit_length, Else-from-bit_length}

abbrev cable : Start → Cable
cable c = cable_in c.args.cable

fitting : (c : Start) → Listed (cable c) (length c.args.out.now)
fitting c = listed (cable c) (length c.args.out.now) c.requires.lists

within : (c : Start) → Within (cable c).settings
within c = fit_within (cable c).settings (settings_tests (cable c).settings c.requires.settings).0

pub line-requires : goal.line-requires
line-requires c = ((fitting (goal.at.line-requires c).Start).few, c.empty_line-line.ensures)

-- ---- the sums

-- the work area has a place for each symbol
area_long : (c : After-empty_sums-sums) → length c.args.cable.symbols.now ≤ length c.empty_sums-sums.result
area_long c = omega (arith, ap length c.empty_sums-sums.ensures ∙ empty_sums_lem, (fitting (goal.at.After-empty_sums-sums c).Start).few)

part_long : (c : After-empty_sums-sums) → let k = length c.args.cable.symbols.now in length (take k c.empty_sums-sums.result) ≡ k
part_long c = let k = length c.args.cable.symbols.now in length-take-le k c.empty_sums-sums.result (area_long c)

pub slice_bounds-sums-end-2 : goal.slice_bounds-sums-end-2
slice_bounds-sums-end-2 c = area_long (goal.at.slice_bounds-sums-end-2 c).After-empty_sums-sums

pub slice_bounds-sums-end-3 : goal.slice_bounds-sums-end-3
slice_bounds-sums-end-3 c = sym (part_long (goal.at.slice_bounds-sums-end-3 c).After-empty_sums-sums)

pub sums-bits-requires : goal.sums-bits-requires
sums-bits-requires c =
    let at = goal.at.sums-bits-requires c in
    let b = at.Start in
    rw (c.line.ensures, part_long at.After-empty_sums-sums)
    (line_summable (cable b) (fitting b).few (fitting b).response_most (within b).r_most (fitting b).symbols c.sixteen_bits.ensures)

summed : (c : After-sums-bits) → let k = cable (goal.at.After-sums-bits c).Start in c.sums-bits.new.out ≡ values (s k) (sample_count k)
summed c =
    let at = goal.at.After-sums-bits c in
    let b = at.Start in
    c.sums-bits.ensures.0
    ∙ ap₂ (λ (l : List ℤ) (n : ℕ). sums c.args.cable.response.now l n) c.line.ensures (part_long at.After-empty_sums-sums)
    ∙ sums_are (cable b) (fitting b).few (fitting b).response_most

pub overflow_sub-from : goal.overflow_sub-from
overflow_sub-from c = omega (arith, (within (goal.at.overflow_sub-from c).Start).L_most)

-- every gain, by the bits of the sums
fit : (c : After-bit_length) → let k = cable (goal.at.After-bit_length c).Start in
    leb c.bit_length.result (data_unit + c.from.result - c.from-2.result) ≡ all (gain_available k.settings) (values (s k) (sample_count k))
fit c =
    let at = goal.at.After-bit_length c in
    let k = cable at.Start in
    ap₂ (λ (r L : ℕ). leb c.bit_length.result (data_unit + r - L)) c.from.ensures c.from-2.ensures
    ∙ ap (λ (n : ℕ). leb n (data_unit + k.settings.r - k.settings.L)) (c.bit_length.ensures ∙ ap bit_length (c.from-3.ensures ∙ c.sums-bits.ensures.1 ∙ ap (λ (l : List ℤ). or_all (magnitudes l)) (summed at.After-sums-bits)))
    ∙ gains_fit k.settings (within at.Start).L_most (values (s k) (sample_count k))

pub returns-then-from-bit_length : goal.returns-then-from-bit_length
returns-then-from-bit_length c =
    let at = goal.at.returns-then-from-bit_length c in
    let b = at.Start in
    made_off (cable b) b.args.out.now b.requires.settings b.requires.lists (sym (fit at.After-bit_length) ∙ lt-leb _ _ c.if-from-bit_length.true)

-- ---- the trace

-- the sums that were written stand in front of the work area
written : (c : After-sums-bits) → let k = cable (goal.at.After-sums-bits c).Start in
    take (sample_count k) (c.sums-bits.new.out ++ drop (sample_count k) c.empty_sums-sums.result) ≡ values (s k) (sample_count k)
written c =
    let k = cable (goal.at.After-sums-bits c).Start in
    take_at c.sums-bits.new.out _ (sample_count k) (ap length (summed c) ∙ values_length (s k) (sample_count k) ∙ omega arith) ∙ summed c

whole : (c : After-sums-bits) → let k = sample_count (cable (goal.at.After-sums-bits c).Start) in k ≤ length (c.sums-bits.new.out ++ drop k c.empty_sums-sums.result)
whole c =
    let k = cable (goal.at.After-sums-bits c).Start in
    omega (
      arith,
      length-append c.sums-bits.new.out (drop (sample_count k) c.empty_sums-sums.result),
      ap length (summed c) ∙ values_length (s k) (sample_count k),
    )

pub slice_bounds-sums-end-4 : goal.slice_bounds-sums-end-4
slice_bounds-sums-end-4 c = whole (goal.at.slice_bounds-sums-end-4 c).After-sums-bits

pub slice_bounds-trace-end : goal.slice_bounds-trace-end
slice_bounds-trace-end c = sym (length-take-le _ _ (whole (goal.at.slice_bounds-trace-end c).After-sums-bits))

gains : (c : Else-from-bit_length) → let k = cable (goal.at.Else-from-bit_length c).Start in Each (Gainable k.settings.r) (values (s k) (sample_count k))
gains c =
    let at = goal.at.Else-from-bit_length c in
    let k = cable at.Start in
    gains_each k.settings (values (s k) (sample_count k)) (within at.Start).r_most (sym (fit at.After-bit_length) ∙ le-leb _ _ c.if-from-bit_length.false)

pub trace-requires : goal.trace-requires
trace-requires c =
    let at = goal.at.trace-requires c in
    let b = at.Start in
    let k = cable b in
    rw (written at.After-sums-bits) (
      gains at.Else-from-bit_length,
      record {
        N_least = (within b).N_least;
        some = omega (arith, (fitting b).blocks_least, div-le_self (sample_count k) k.settings.N);
        few = (fitting b).few;
        training_most = (fitting b).training_most;
        same_length = length-map (values (s k) (sample_count k)) _ ∙ values_length (s k) (sample_count k);
        not_negative = words_whole k.settings.r (values (s k) (sample_count k));
        room = (fitting b).room_is;
      },
    )

pub returns : goal.returns
returns c =
    let at = goal.at.returns c in
    let b = at.Start in
    let k = cable b in
    made_fit k b.args.out.now b.requires.settings b.requires.lists c.trace.new.out (sym (fit at.After-bit_length) ∙ le-leb _ _ c.if-from-bit_length.false)
    (c.trace.ensures.1 ∙ trace_is k _ (c.trace.ensures.0 ∙ ap (sample_words k.settings.r) (written at.After-sums-bits)) (gains at.Else-from-bit_length))
