-- For every description: a trace that is read as such, or a line that is turned down as no trace.
use mathlib.Core.Path.{◌≡◌, refl, sym, ap, ◌∙◌, subst}
use mathlib.Core.Bool.{Bool, true, false}
use mathlib.Core.List.{List}
use mathlib.Core.Logic.{inl, inr}
use Prim.Native.Nat.{ℕ}
use lib.Dec.{eqb}
use borrow.Author.Tests.{eqb-true, eqb-false}
use Rattle.words.specs.Words.{byte_at}
use Rattle.trace_text.specs.Text.{stop_line, trace_text}
use Rattle.trace_text.proofs.TraceLaws.{not_well_formed}
use Rattle.cable_trace.specs.Cable.{Cable, trace_length, cause, cable_number}
use Rattle.cable_trace.specs.Reading.{Reads}
use Rattle.cable_trace.proofs.ReadingLaws.{reads}
use Rattle.description.specs.Description.{well_described, cable_in, malformed_line, refusal_line, described}
use Rattle.description.specs.Piped.{Piped}
use Rattle.description.proofs.LineLaws.{no_trace, malformed_colon, refusal_colon}
use Rattle.description.proofs.WriteLaws.{malformed_described, output_described, accepted_output, refused_output}

module _ (t : List ℕ) where
  abbrev c : Cable
  c = cable_in t

  -- a line is no trace
  stopped : (line : List ℕ) → line ≡ described t → byte_at line 5 ≡ 58 → trace_text (described t) ≡ stop_line 8 0
  stopped line e h = ap trace_text (sym e) ∙ sym (not_well_formed line (no_trace line h))

  pub piped : Piped t
  piped = go (well_described t) (eqb (cable_number c (trace_length c)) 0) refl refl
    where
      go : (a b : Bool) → well_described t ≡ a → eqb (cable_number c (trace_length c)) 0 ≡ b → Piped t
      go false b h k = inr (stopped malformed_line (malformed_described t h) malformed_colon)
      go true false h k =
          inr
          (stopped (refusal_line (cable_number c (trace_length c)) (cause c (trace_length c)))
          (refused_output c (eqb-false _ 0 k) ∙ output_described t h) (refusal_colon (cable_number c (trace_length c)) (cause c (trace_length c))))
      go true true h k =
          let z = eqb-true (cable_number c (trace_length c)) 0 k in
          let e = accepted_output c z ∙ output_described t h in
          inl (record { well_described_lem = h; accepted = z; output_is = sym e; reads = subst (Reads c) e (reads c (trace_length c) z) })
