use Rattle.std.proofs.Common.{◌≡◌, rules, get_or, ℤ, pos, w16, to_z, of_z}
use Rattle.std.proofs.lemmas.List.Edits.{map_over_more}
use Rattle.numbers.specs.Cut.{rescale}
use Rattle.steps.proofs.past.rescale_all.Goals as goal

pub loop-x-preserved : goal.loop-x-preserved
loop-x-preserved c =
    let x = get_or c.loop-x.x-items c.loop-x.x-index (pos 0) in
    let e : to_z w16 (of_z w16 c.restored.result) ≡ rescale x c.args.i c.args.j = search rules in
    rw e (search (rules, map_over_more (λ (x : ℤ). rescale x c.args.i c.args.j)))
