-- The text of a trace: the blocks, refused settings, and a trace that is not well formed.
use mathlib.Core.Path.{refl, sym, ap, ◌∙◌, subst}
use Prim.Native.Nat.{ℕ}
use native.Mathlib.Omega.{arith}
use Rattle.std.specs.Prelude.{Ok, Err}
use Rattle.steps.specs.Settings.{Settings}
use Rattle.trace_layout.proofs.ReadLaws.{well_long}
use Rattle.state.specs.Refusal.{answer_with}
use Rattle.state.specs.State.{refused}
use Rattle.state.specs.Answers.{SetUp}
use Rattle.trace_text.specs.Text.{stop_line, trace_text}
use Rattle.trace_text.specs.Calls.{TextAt}
use Rattle.trace_text.proofs.TextAtLaws.{text_same, text_at_front}
use Rattle.trace_text.proofs.BlockLaws.{number_some}
use Rattle.trace_text.proofs.TraceLaws.{not_well_formed, refused_text, accepted_text, traceable}
use Rattle.trace_text.proofs.text.Goals as goal
use Rattle.trace_text.proofs.text.Goals.{then-well_formed+in-Ok, then-well_formed+in-Err, else-well_formed}

pub settings_in-requires : goal.settings_in-requires
settings_in-requires c = omega (arith, well_long _ (sym c.well_formed-2.ensures ∙ c.if-well_formed.true))

pub all_blocks-requires : goal.all_blocks-requires
all_blocks-requires c =
    let s = subst (λ (k : Settings). SetUp k (answer_with refused (Ok c.in-Ok.e))) c.settings_in.ensures c.in-Ok.ensures in
    traceable _ (sym c.well_formed-2.ensures ∙ c.if-well_formed.true) _ s _ (omega arith) refl

pub returns : goal.returns
returns c =
    let t = c.args.trace.now in
    let written : TextAt 0 (trace_text t) c.args.out.now c.if-well_formed.text.end c.if-well_formed.text.out.now = elim c.if-well_formed.branch [
      | then-well_formed+in-Ok w ↦
          let h = sym c.well_formed-2.ensures ∙ w.if-well_formed.true in
          let s = subst (λ (k : Settings). SetUp k (answer_with refused (Ok w.in-Ok.e))) w.settings_in.ensures w.in-Ok.ensures in
          rw w.text-is (text_same (accepted_text t h _ s refl) w.all_blocks.ensures.text)
      | then-well_formed+in-Err w ↦
          let h = sym c.well_formed-2.ensures ∙ w.if-well_formed.true in
          let x = w.in-Err.refusal in
          let s = subst (λ (k : Settings). SetUp k (answer_with refused (Err x))) w.settings_in.ensures w.in-Err.ensures in
          rw w.text-is (text_same (ap (λ (n : ℕ). stop_line n 0) w.from.ensures ∙ refused_text t h _ s (number_some x)) w.stop_line.ensures.text)
      | else-well_formed w ↦
          rw w.text-is (text_same (ap (λ (n : ℕ). stop_line n 0) w.from-else-well_formed.ensures ∙ not_well_formed t (sym c.well_formed-2.ensures ∙ w.if-well_formed.false))
          w.stop_line-else-well_formed.ensures.text)
    ] in
    text_at_front _ _ _ _ written
