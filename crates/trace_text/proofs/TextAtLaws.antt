-- Text in lent bytes, put together from parts.
use mathlib.Core.Path.{◌≡◌, refl, sym, ap, ap₂, ◌∙◌, subst}
use mathlib.Core.List.{List, [], ◌∷◌, ◌++◌, append_assoc, append-nil}
use Prim.Native.Nat.{ℕ, suc, ◌+◌, ◌≤◌, ◌<◌}
use native.Mathlib.Omega.{arith}
use native.Mathlib.Numerals.{add-one}
use lib.ListN.{length, get_or, take, drop, set, length-append, length-drop, take-append-drop}
use lib.Seq.{take_at, take-length, drop_at, drop-drop, length-take-le, set_split, append_snoc, paste, paste-suc}
use Rattle.trace_text.specs.TextFront.{TextFront}
use Rattle.trace_text.specs.Calls.{TextAt}

pub same_drop : (o : List ℕ) (m n : ℕ) → m ≡ n → drop m o ≡ drop n o
same_drop o m n e = ap (λ (k : ℕ). drop k o) e

pub text_none : (a : ℕ) (o : List ℕ) → TextAt a [] o a o
text_none a o = record {
  end_is = omega arith;
  contents = sym (ap₂ ◌++◌ (append-nil (take a o)) (same_drop o (a + 0) a (omega arith)) ∙ take-append-drop a o);
}

pub text_byte : (a : ℕ) (x : ℕ) (o : List ℕ) → a < length o → TextAt a (x ∷ []) o (a + 1) (set o a x)
text_byte a x o h = record {
  end_is = refl;
  contents = set_split o a x h ∙ sym (append_snoc (take a o) x (drop (suc a) o)) ∙ ap (λ (n : ℕ). take a o ++ (x ∷ []) ++ drop n o) (sym (add-one a));
}

pub text_same : {a b : ℕ} {s t o o₁ : List ℕ} → s ≡ t → TextAt a s o b o₁ → TextAt a t o b o₁
text_same {a} {b} {o = o} {o₁ = o₁} e f = subst (λ (l : List ℕ). TextAt a l o b o₁) e f

-- a text written up to its end
pub text_up_to : {a b : ℕ} (from : ℕ) {s o o₁ : List ℕ} → b ≡ a + length s → from + length s ≡ b → drop from o₁ ≡ s ++ drop b o → take from o₁ ≡ take from o → TextAt a s o b o₁
text_up_to {a} {b} from {s} {o} {o₁} e h w t = record {
  end_is = e;
  contents =
      sym (take-append-drop from o₁) ∙ ap₂ ◌++◌ t w ∙ sym (append_assoc (take from o) s (drop b o))
      ∙ ap₂ (λ (m n : ℕ). take m o ++ s ++ drop n o) (omega (arith, e, h)) e;
}

-- a text has room where a longer one has
pub room_front : (a : ℕ) {n : ℕ} (s t : List ℕ) → a + length (s ++ t) ≤ n → a + length s ≤ n
room_front a s t h = omega (arith, length-append s t)

module _ {a b : ℕ} {s o o₁ : List ℕ} (f : TextAt a s o b o₁) where
  pub text_long : a + length s ≤ length o → length o₁ ≡ length o
  text_long h =
      omega (
        arith,
        ap length f.contents,
        length-append (take a o ++ s) (drop (a + length s) o),
        length-append (take a o) s,
        length-take-le a o (omega arith),
        length-drop (a + length s) o,
      )

  -- what is left has room for the rest
  pub text_room : (t : List ℕ) → a + length (s ++ t) ≤ length o → b + length t ≤ length o₁
  text_room t h = omega (arith, f.end_is, text_long (room_front a s t h), length-append s t)

  module _ (h : a ≤ length o) where
    until : length (take a o ++ s) ≡ b
    until = length-append (take a o) s ∙ ap (λ (n : ℕ). n + length s) (length-take-le a o h) ∙ sym f.end_is

    -- another text behind it
    pub text_then : {t o₂ : List ℕ} {c : ℕ} → TextAt b t o₁ c o₂ → TextAt a (s ++ t) o c o₂
    text_then {t} {o₂} {c} g = record {
      end_is = g.end_is ∙ omega (arith, f.end_is, length-append s t);
      contents =
          g.contents
          ∙ ap₂ (λ (l r : List ℕ). l ++ t ++ r) (ap (take b) f.contents ∙ take_at (take a o ++ s) _ b until)
          (sym (drop-drop (length t) b o₁) ∙ ap (drop (length t)) (ap (drop b) f.contents ∙ drop_at (take a o ++ s) _ b until)
          ∙ drop-drop (length t) (a + length s) o ∙ same_drop o (a + length s + length t) (a + length (s ++ t)) (omega (arith, length-append s t)))
          ∙ ap (λ (l : List ℕ). l ++ drop (a + length (s ++ t)) o) (append_assoc (take a o) s t);
    }

-- ---- a text copied byte by byte

module _ (o : List ℕ) (at : ℕ) (text : List ℕ) where
  pub pasted_next : (i : ℕ) (o₁ : List ℕ) → at + length text ≤ length o → i < length text → o₁ ≡ paste o at text i → set o₁ (at + i) (get_or text i 0) ≡ paste o at text (i + 1)
  pasted_next i o₁ h k e =
      ap (λ (l : List ℕ). set l (at + i) (get_or text i 0)) e ∙ paste-suc o at text i 0 (omega arith) k ∙ ap (paste o at text) (sym (add-one i))

  pub pasted_all : (i : ℕ) (o₁ : List ℕ) → o₁ ≡ paste o at text i → i ≡ length text → TextAt at text o (at + i) o₁
  pasted_all i o₁ e k = record {
    end_is = ap (λ (n : ℕ). at + n) k;
    contents = e ∙ ap (paste o at text) k ∙ ap (λ (l : List ℕ). take at o ++ l ++ drop (at + length text) o) (take-length text);
  }

-- ---- a text at the front

pub text_at_front : (text before : List ℕ) (count : ℕ) (after : List ℕ) → TextAt 0 text before count after → TextFront text before count after
text_at_front text before count after f =
    let none : 0 + length text ≡ length text = omega arith in
    record { text_length = f.end_is ∙ none; contents = f.contents ∙ ap (λ (n : ℕ). text ++ drop n before) none }
