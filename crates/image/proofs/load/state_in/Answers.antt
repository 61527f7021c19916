-- The settings, the weights and the data.
use mathlib.Core.Path.{ap, ◌∙◌}
use Prim.Native.Nat.{◌+◌}
use Rattle.image.specs.Load.{state_by}
use Rattle.image.specs.declared.layout.Layout.{Layout}
use Rattle.image.proofs.FrameLaws.{state_made}
use Rattle.image.proofs.load.state_in.Goals as goal

pub returns : goal.returns
returns c =
    state_made c.args.bytes.now c.settings_in-k.result c.layout_of-y.result (c.from.result + c.from-2.result) c.data_place-mid.result c.end_place-end.result c.weights_in.result c.words_in.result
    c.settings_in-k.ensures (cc) c.data_place-mid.ensures c.end_place-end.ensures c.weights_in.ensures c.words_in.ensures
    ∙ ap (λ (y : Layout). state_by y c.args.bytes.now) c.layout_of-y.ensures
