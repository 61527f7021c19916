-- The weights of both filters, lent together.
use Rattle.std.specs.Prelude.{◌≡◌}
use Rattle.filter.specs.declared.weights.Weights.{Weights}

-- both are still the lists that were lent, whatever is in them
pub record SameLists (w w' : Weights) : Type 0 where
  pub forward : w'.forward.ghost_name ≡ w.forward.ghost_name
  pub back : w'.back.ghost_name ≡ w.back.ghost_name
