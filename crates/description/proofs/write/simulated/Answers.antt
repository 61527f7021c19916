-- The settings, the lists and the training count are those of the description.
use mathlib.Core.Path.{sym}
use lib.Seq.{length-take-le}
use native.Mathlib.Omega.{arith}
use Rattle.description.proofs.ReadLaws.{well_long, well_most}
use Rattle.description.proofs.WriteLaws.{cable_in_lem, simulation_same}
use Rattle.description.proofs.write.simulated.Goals as goal

pub response_count-k-requires : goal.response_count-k-requires
response_count-k-requires c = omega (arith, well_long _ c.requires)

pub symbol_count-n-requires : goal.symbol_count-n-requires
symbol_count-n-requires c = omega (arith, well_long _ c.requires)

pub training_count-requires : goal.training_count-requires
training_count-requires c = omega (arith, well_long _ c.requires)

pub settings_in-requires : goal.settings_in-requires
settings_in-requires c = omega (arith, well_long _ c.requires)

pub slice_bounds-response-end : goal.slice_bounds-response-end
slice_bounds-response-end c = omega (arith, c.response-response.type_inv, c.response_count-k.ensures, well_long _ c.requires, well_most _ c.requires)

pub slice_bounds-cable-end : goal.slice_bounds-cable-end
slice_bounds-cable-end c = sym (length-take-le _ _ (omega (arith, c.response-response.type_inv, c.response_count-k.ensures, well_long _ c.requires, well_most _ c.requires)))

pub slice_bounds-symbols-end : goal.slice_bounds-symbols-end
slice_bounds-symbols-end c = omega (arith, c.symbols-symbols.type_inv, c.symbol_count-n.ensures, well_long _ c.requires, well_most _ c.requires)

pub slice_bounds-cable-end-2 : goal.slice_bounds-cable-end-2
slice_bounds-cable-end-2 c = sym (length-take-le _ _ (omega (arith, c.symbols-symbols.type_inv, c.symbol_count-n.ensures, well_long _ c.requires, well_most _ c.requires)))

pub returns : goal.returns
returns c =
    simulation_same (cable_in_lem c.args.t.now _ _ _ _ c.settings_in.ensures c.response-response.ensures c.symbols-symbols.ensures c.training_count.ensures) c.simulate.ensures
