-- Bytes that are no description, and a description.
use mathlib.Core.Path.{sym, ◌∙◌}
use Rattle.trace_text.proofs.TextAtLaws.{text_same, text_at_front}
use Rattle.description.proofs.WriteLaws.{malformed_described, output_described}
use Rattle.description.proofs.described.Goals as goal

pub returns-then-not-well_described : goal.returns-then-not-well_described
returns-then-not-well_described c =
    text_at_front _ _ _ _ (text_same (malformed_described _ (sym c.well_described.ensures ∙ c.if-not-well_described.true)) c.malformed.ensures)

pub returns : goal.returns
returns c = text_at_front _ _ _ _ (text_same (output_described _ (sym c.well_described.ensures ∙ c.if-not-well_described.false)) c.write.ensures)
