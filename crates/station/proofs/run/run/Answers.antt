-- The checks, the run on work areas of zeros, and five copies where the block is accepted.
use mathlib.Core.Path.{sym, ◌∙◌}
use lib.IntN.{pos}
use borrow.Author.Rules.{rules}
use Rattle.std.proofs.lemmas.Result.{err_from_is_err_and}
use Rattle.block.proofs.BlockMemory.{same_outputs}
use Rattle.checks.proofs.CheckLaws.{outputs_long, checked_is}
use Rattle.station.proofs.AnswerLaws.{check_refused}
use Rattle.station.proofs.RunLaws.{area_long, places_most, areas_long, block_refused, handed_long, accepted}
use Rattle.station.proofs.run.run.Goals as goal

pub returns-in_err-checked-clause-run : goal.returns-in_err-checked-clause-run
returns-in_err-checked-clause-run c =
    let p = err_from_is_err_and c.from_residual.result c.from_residual.ensures.1 in
    rw (p.1, p.2) (check_refused c.args.e _ _ (rw c.read.ensures at c.in_err-checked.ensures))

pub slice_bounds-y-end : goal.slice_bounds-y-end
slice_bounds-y-end c = places_most _ _ c.in_ok-checked.ensures c.from-n.ensures

pub slice_bounds-areas-end : goal.slice_bounds-areas-end
slice_bounds-areas-end c = sym (area_long (pos 0) (places_most _ _ c.in_ok-checked.ensures c.from-n.ensures))

pub slice_bounds-xi-end : goal.slice_bounds-xi-end
slice_bounds-xi-end c = places_most _ _ c.in_ok-checked.ensures c.from-n.ensures

pub slice_bounds-areas-end-2 : goal.slice_bounds-areas-end-2
slice_bounds-areas-end-2 c = sym (area_long 0 (places_most _ _ c.in_ok-checked.ensures c.from-n.ensures))

pub slice_bounds-decision-end : goal.slice_bounds-decision-end
slice_bounds-decision-end c = places_most _ _ c.in_ok-checked.ensures c.from-n.ensures

pub slice_bounds-areas-end-3 : goal.slice_bounds-areas-end-3
slice_bounds-areas-end-3 c = sym (area_long (pos 0) (places_most _ _ c.in_ok-checked.ensures c.from-n.ensures))

pub slice_bounds-z-end : goal.slice_bounds-z-end
slice_bounds-z-end c = places_most _ _ c.in_ok-checked.ensures c.from-n.ensures

pub slice_bounds-areas-end-4 : goal.slice_bounds-areas-end-4
slice_bounds-areas-end-4 c = sym (area_long (pos 0) (places_most _ _ c.in_ok-checked.ensures c.from-n.ensures))

pub slice_bounds-theta-end : goal.slice_bounds-theta-end
slice_bounds-theta-end c = places_most _ _ c.in_ok-checked.ensures c.from-n.ensures

pub slice_bounds-areas-end-5 : goal.slice_bounds-areas-end-5
slice_bounds-areas-end-5 c = sym (area_long 0 (places_most _ _ c.in_ok-checked.ensures c.from-n.ensures))

pub returns-in_err-next-clause-run : goal.returns-in_err-next-clause-run
returns-in_err-next-clause-run c =
    let p = err_from_is_err_and c.from_residual-in_err-next.result c.from_residual-in_err-next.ensures.1 in
    rw (p.1, p.2) (block_refused c.args.e _ (rw c.read.ensures at c.in_ok-checked.ensures) _ c.in_err-next.ensures.run)

pub run_checked-requires : goal.run_checked-requires
run_checked-requires c = (checked_is c.args.e _ (sym c.in_ok-checked.ensures) (search rules) (search rules) c.sixteen_bits.ensures, areas_long _ _ c.in_ok-checked.ensures c.from-n.ensures)

pub copy_from_slice-requires : goal.copy_from_slice-requires
copy_from_slice-requires c = let p = rw c.read.ensures at c.in_ok-checked.ensures in (outputs_long c.args.e _ (sym p)).y_long ∙ sym (handed_long _ _ p (areas_long _ _ p c.from-n.ensures) c.in_ok-next.ensures.run).y_long

pub copy_from_slice-requires-2 : goal.copy_from_slice-requires-2
copy_from_slice-requires-2 c = let p = rw c.read.ensures at c.in_ok-checked.ensures in (outputs_long c.args.e _ (sym p)).xi_long ∙ sym (handed_long _ _ p (areas_long _ _ p c.from-n.ensures) c.in_ok-next.ensures.run).xi_long

pub copy_from_slice-requires-3 : goal.copy_from_slice-requires-3
copy_from_slice-requires-3 c = let p = rw c.read.ensures at c.in_ok-checked.ensures in (outputs_long c.args.e _ (sym p)).decision_long ∙ sym (handed_long _ _ p (areas_long _ _ p c.from-n.ensures) c.in_ok-next.ensures.run).decision_long

pub copy_from_slice-requires-4 : goal.copy_from_slice-requires-4
copy_from_slice-requires-4 c = let p = rw c.read.ensures at c.in_ok-checked.ensures in (outputs_long c.args.e _ (sym p)).z_long ∙ sym (handed_long _ _ p (areas_long _ _ p c.from-n.ensures) c.in_ok-next.ensures.run).z_long

pub copy_from_slice-requires-5 : goal.copy_from_slice-requires-5
copy_from_slice-requires-5 c = let p = rw c.read.ensures at c.in_ok-checked.ensures in (outputs_long c.args.e _ (sym p)).theta_long ∙ sym (handed_long _ _ p (areas_long _ _ p c.from-n.ensures) c.in_ok-next.ensures.run).theta_long

pub returns-clause-run : goal.returns-clause-run
returns-clause-run c =
    let p = rw c.read.ensures at c.in_ok-checked.ensures in
    accepted _ _ p (areas_long _ _ p c.from-n.ensures) c.in_ok-next.ensures.run
    (same_outputs c.copy_from_slice.ensures.after c.copy_from_slice-2.ensures.after c.copy_from_slice-3.ensures.after c.copy_from_slice-4.ensures.after c.copy_from_slice-5.ensures.after)
