-- The header, the samples and the entries, each in its part of the output.
use mathlib.Core.Path.{◌≡◌, ap, ap₂, ◌∙◌}
use mathlib.Core.List.{List, ◌++◌}
use Prim.Native.Nat.{ℕ, ◌+◌, ◌*◌, ◌-◌, ◌/◌, ◌≤◌, ◌<◌}
use native.Mathlib.Omega.{arith}
use native.Mathlib.Nat.{div-le_self}
use lib.ListN.{length, take, drop}
use lib.Seq.{length_front, length-take-le}
use borrow.Rule.Slice.PartMut.{mid_of, mid_len}
use Rattle.laws.specs.Values.{values_length}
use Rattle.laws.specs.Lent.{parts_put}
use Rattle.trace_layout.specs.Trace.{trace_header_length, trace_header}
use Rattle.cable_trace.specs.Calls.{sent_limit}
use Rattle.cable_trace.proofs.PutLaws.{stored_front}
use Rattle.cable_trace.proofs.put.word_trace.Goals as goal
use Rattle.cable_trace.proofs.put.word_trace.Goals.{Start, After-put_header}

-- where the entries begin, and where they end
abbrev mid : Start → ℕ
mid s = trace_header_length + 3 * length s.args.cable.symbols.now

abbrev end : Start → ℕ
end s = mid s + length s.args.cable.symbols.now

-- the output is as long when the header is back
headed_long : (c : After-put_header) → let b = c.args.out.now in length (c.put_header.new.out ++ drop trace_header_length b) ≡ length b
headed_long c = length_front c.args.out.now c.put_header.new.out trace_header_length c.put_header.auto.out

few : (s : Start) → length s.args.cable.symbols.now / s.args.cable.settings.N ≤ sent_limit
few s = omega (arith, div-le_self (length s.args.cable.symbols.now) s.args.cable.settings.N, s.requires.few)

-- what is lent to the samples
abbrev lent : After-put_header → List ℕ
lent c = mid_of trace_header_length (end (goal.at.After-put_header c).Start - trace_header_length) (c.put_header.new.out ++ drop trace_header_length c.args.out.now)

buffers_long : (c : After-put_header) → length (lent c) ≡ 4 * length c.args.words.now
buffers_long c =
    mid_len trace_header_length (end (goal.at.After-put_header c).Start) (c.put_header.new.out ++ drop trace_header_length c.args.out.now)
    (omega (arith, headed_long c, c.requires.room))
    ∙ omega (arith, c.requires.same_length)

some : (c : After-put_header) → 3 * length c.args.words.now < length (lent c)
some c = omega (arith, buffers_long c, c.requires.some, c.requires.same_length)

pub nonzero_div-n : goal.nonzero_div-n
nonzero_div-n c = omega (arith, c.requires.N_least)

pub overflow_cast-n : goal.overflow_cast-n
overflow_cast-n c = omega (arith, few (goal.at.overflow_cast-n c).Start)

pub samples-requires : goal.samples-requires
samples-requires c = (c.requires.not_negative, some (goal.at.samples-requires c).After-put_header)

pub returns : goal.returns
returns c =
    let at = goal.at.returns c in
    let s = at.Start in
    let h = at.After-put_header in
    let k = length c.args.cable.symbols.now in
    let n : mid s - trace_header_length ≡ 3 * length c.args.words.now = omega (arith, c.requires.same_length) in
    parts_put c.args.out.now c.put_header.new.out c.samples.new.out c.entries.new.out trace_header_length (mid s) (end s)
    (c.put_header.auto.out ∙ length-take-le trace_header_length c.args.out.now (omega (arith, c.requires.room)))
    (omega (arith, c.samples.auto.out, buffers_long h, c.requires.same_length)) (omega arith)
    (ap (λ (n : ℕ). mid s + n) (ap length c.entries.ensures ∙ values_length _ k)) (omega (arith, c.requires.room))
    ∙ ap₂ (λ (a b : List ℕ). a ++ b) (c.put_header.ensures ∙ ap (λ (n : ℕ). trace_header c.args.cable.settings (k / n)) c.from.ensures)
    (ap₂ (λ (a b : List ℕ). a ++ b) (ap₂ take n c.samples.ensures ∙ stored_front c.args.words.now (lent h) (length c.args.words.now) (some h)) c.entries.ensures)
