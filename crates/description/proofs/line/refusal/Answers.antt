-- The bytes of each line.
use mathlib.Core.Path.{◌≡◌, refl, ap, ◌∙◌}
use mathlib.Core.List.{List}
use Prim.Native.Nat.{ℕ}
use denote.Ref.{Bor}
use borrow.Author.Rules.{rules}
use Rattle.trace_text.proofs.TextAtLaws.{text_same}
use Rattle.description.specs.Texts.{text}
use Rattle.description.specs.Description.{cause_line, refusal_line}
use Rattle.description.proofs.LineLaws.{other_cause, other_number, cause_told}
use Rattle.description.proofs.line.refusal.Goals as goal
use Rattle.description.proofs.line.refusal.Goals.{in-1-default, in-2-default, in_default-eq1, in_default-eq2, in_default-eq3, in_default-eq4, in_default-eq5, in_default}

abbrev bytes : Bor (List ℕ) → List ℕ
bytes b = b.now

pub returns : goal.returns
unfolding cause_line refusal_line text
returns c =
    let line : c.match-number.text.now ≡ refusal_line c.args.number c.args.reason = elim c.match-number.branch [
      | in-1-default w ↦ rw (w.text-is, w.in-1-default.is-0) refl
      | in-2-default w ↦ rw (w.text-is, w.in-2-default.is-0) refl
      | in_default-eq1 w ↦ let e = w.in_default-eq1 in ap bytes w.text-is ∙ cause_told c.args.number e.is-1 e.is-0.0.1 e.is-0.1
      | in_default-eq2 w ↦ let e = w.in_default-eq2 in ap bytes w.text-is ∙ cause_told c.args.number e.is-1 e.is-0.0.1 e.is-0.1
      | in_default-eq3 w ↦ let e = w.in_default-eq3 in ap bytes w.text-is ∙ cause_told c.args.number e.is-1 e.is-0.0.1 e.is-0.1
      | in_default-eq4 w ↦ let e = w.in_default-eq4 in ap bytes w.text-is ∙ cause_told c.args.number e.is-1 e.is-0.0.1 e.is-0.1
      | in_default-eq5 w ↦ let e = w.in_default-eq5 in ap bytes w.text-is ∙ cause_told c.args.number e.is-1 e.is-0.0.1 e.is-0.1
      | in_default w ↦ ap bytes w.text-is ∙ other_cause c.args.reason (search rules) (search rules) (search rules) (search rules) (search rules) ∙ other_number c.args.number c.args.reason (search rules) (search rules)
    ] in
    text_same line c.word.ensures
