-- The trace in the first bytes, or the line over bytes that are as they were.
use mathlib.Core.Path.{◌≡◌, refl, sym, ap, ap₂, ◌∙◌}
use Prim.Native.Nat.{◌≤◌}
use native.Mathlib.Omega.{arith}
use lib.ListN.{length}
use Rattle.trace_text.proofs.TextAtLaws.{text_same}
use Rattle.cable_trace.specs.Cable.{Cable, sample_count}
use Rattle.description.specs.Description.{cable_in, refusal_line}
use Rattle.description.specs.Calls.{trace_end}
use Rattle.description.proofs.ReadLaws.{well_long, well_most}
use Rattle.description.proofs.WriteLaws.{samples_in_lem, end_most, trace_written, over_untouched, line_is}
use Rattle.std.specs.Prelude.{Err}
use Rattle.cable_trace.proofs.CauseLaws.{number_some}
use Rattle.description.proofs.write.write.Goals as goal
use Rattle.description.proofs.write.write.Goals.{After-trace_end-end}

abbrev cable : After-trace_end-end → Cable
cable c = cable_in c.args.t.now

end_is : (c : After-trace_end-end) → c.trace_end-end.result ≡ trace_end (sample_count (cable c))
end_is c = c.trace_end-end.ensures ∙ ap trace_end (c.symbol_count.ensures ∙ sym (samples_in_lem c.args.t.now))

pub symbol_count-requires : goal.symbol_count-requires
symbol_count-requires c = omega (arith, well_long _ c.requires.well_described_lem)

pub trace_end-end-requires : goal.trace_end-end-requires
trace_end-end-requires c =
    let p = c.requires in
    omega (arith, c.symbol_count.ensures, well_long _ p.well_described_lem, well_most _ p.well_described_lem)

within : (c : After-trace_end-end) → c.trace_end-end.result ≤ length c.args.out.now
within c = omega (arith, end_is c, end_most (sample_count (cable c)), c.requires.room)

pub slice_bounds-simulated-end : goal.slice_bounds-simulated-end
slice_bounds-simulated-end c = within (goal.at.slice_bounds-simulated-end c).After-trace_end-end

pub returns-in-Ok : goal.returns-in-Ok
returns-in-Ok c =
    let e = (goal.at.returns-in-Ok c).After-trace_end-end in
    trace_written (cable e) c.trace_end-end.result (end_is e) c.args.out.now (within e) _ _ c.in-Ok.ensures refl c.simulated.auto.out

pub returns-in-Err : goal.returns-in-Err
returns-in-Err c =
    let e = (goal.at.returns-in-Err c).After-trace_end-end in
    let b = c.args.out.now in
    let f = number_some c.in-Err.refusal in
    over_untouched (cable e) c.trace_end-end.result (end_is e) b (within e) (Err c.in-Err.refusal) _ c.in-Err.ensures f
    (text_same (ap₂ refusal_line c.from.ensures c.cause.ensures ∙ line_is (cable e) c.trace_end-end.result (end_is e) b (within e) (Err c.in-Err.refusal) _ c.in-Err.ensures f) c.refusal.ensures)
