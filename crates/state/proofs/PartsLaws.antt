-- The state of its parts.
use mathlib.Core.Path.{◌≡◌}
use mathlib.Core.List.{List, ◌∷◌, ◌++◌}
use lib.IntN.{ℤ, pos}
use Rattle.steps.specs.Settings.{Settings}
use Rattle.block.specs.Block.{Memory}
use Rattle.state.specs.State.{padded, state_of}
use Rattle.state.specs.declared.equaliser.Equaliser.{Equaliser}

abbrev pub equaliser_of : Settings → Memory → List ℤ → List ℤ → Equaliser
equaliser_of k o weights past =
    record { p = k.p; q = k.q; n = k.N; r = k.r; l = k.L; psi = o.ψ; b = o.b; bmax = o.B; m = k.M; weights = weights; past = past }

pub state_of_parts : (k : Settings) (o : Memory) (weights past : List ℤ) → weights ≡ padded (o.forward ++ o.back) → past ≡ padded (o.samples ++ pos 0 ∷ o.symbols) →
    equaliser_of k o weights past ≡ state_of k o
unfolding state_of
state_of_parts k o weights past e f = rw (e, f)
