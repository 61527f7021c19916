-- The lines of refusals: the last of each choice, and that no line is a trace.
use mathlib.Core.Path.{◌≡◌, refl, sym, ap, ◌∙◌}
use mathlib.Core.Bool.{Bool, true, false, cond, ◌&&◌, and-false}
use mathlib.Core.List.{List}
use Prim.Native.Nat.{ℕ, ◌+◌, ◌*◌, ◌<◌}
use native.Mathlib.Omega.{arith}
use native.Mathlib.Decide.{dec_lt}
use lib.Dec.{eqb}
use lib.ListN.{length}
use borrow.Author.Tests.{ne_eqb}
use Rattle.words.specs.Words.{byte_at}
use Rattle.trace_layout.specs.Trace.{trace_header_length, trace_limit, samples_in, well_formed}
use Rattle.trace_layout.proofs.ReadLaws.{well_short, well_large, well_tested}
use Rattle.description.specs.Texts.{text}
use Rattle.description.specs.Description.{malformed_line, cause_line, refusal_line}

pub other_cause : (k : ℕ) → (k ≡ 1 → ⊥) → (k ≡ 2 → ⊥) → (k ≡ 3 → ⊥) → (k ≡ 4 → ⊥) → (k ≡ 5 → ⊥) → cause_line 7 ≡ cause_line k
unfolding cause_line
other_cause k a b c d e = simp (ne_eqb k 1 a, ne_eqb k 2 b, ne_eqb k 3 c, ne_eqb k 4 d, ne_eqb k 5 e)

pub other_number : (n k : ℕ) → (n ≡ 1 → ⊥) → (n ≡ 2 → ⊥) → cause_line k ≡ refusal_line n k
unfolding refusal_line
other_number n k a b = simp (ne_eqb n 1 a, ne_eqb n 2 b)

pub cause_told : (n : ℕ) {k m : ℕ} → k ≡ m → (n ≡ 1 → ⊥) → (n ≡ 2 → ⊥) → cause_line m ≡ refusal_line n k
cause_told n {k} e a b = ap cause_line (sym e) ∙ other_number n k a b

-- ---- byte 5 is a colon

abbrev colon : List ℕ → Type 0
colon t = byte_at t 5 ≡ 58

pub no_trace : (t : List ℕ) → colon t → well_formed t ≡ false
no_trace t e = go (dec_lt (length t) trace_header_length) (dec_lt trace_limit (length t))
  where
    go : Dec (length t < trace_header_length) → Dec (trace_limit < length t) → well_formed t ≡ false
    go (yes h) k = well_short t h
    go (no h) (yes k) = well_large t k
    go (no h) (no k) =
        well_tested t (omega arith) (omega arith) ∙ ap (λ (b : ℕ). eqb (length t) (trace_header_length + 4 * samples_in t) && eqb b 0) e ∙ and-false (eqb (length t) (trace_header_length + 4 * samples_in t))

either : (b : Bool) (x y : List ℕ) → colon x → colon y → colon (cond b x y)
either true x y h k = h
either false x y h k = k

pub malformed_colon : colon malformed_line
unfolding malformed_line text
malformed_colon = refl

cause_colon : (k : ℕ) → colon (cause_line k)
unfolding cause_line text
cause_colon k = either (eqb k 1) _ _ refl (either (eqb k 2) _ _ refl (either (eqb k 3) _ _ refl (either (eqb k 4) _ _ refl (either (eqb k 5) _ _ refl refl))))

pub refusal_colon : (n k : ℕ) → colon (refusal_line n k)
unfolding refusal_line text
refusal_colon n k = either (eqb n 1) _ _ refl (either (eqb n 2) _ _ refl (cause_colon k))
