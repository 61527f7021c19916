-- The saved image, and what saving answers.
use Rattle.std.specs.Prelude.{cond, List, ◌∷◌, ◌++◌, ◌≡◌, ℕ, leb, eqb, length, take, drop}
use Rattle.words.specs.Words.{bytes, words}
use Rattle.state.specs.State.{taps}
use Rattle.state.specs.Answers.{examined}
use Rattle.state.specs.declared.equaliser.Equaliser.{Equaliser}
use Rattle.image.specs.Layout.{weight_word, datum_word, current, end_place}
use Rattle.image.specs.declared.save.Saved.{Saved}

-- ---- the image

-- p, q, N, r, L, ψ, b, B and M
abbrev pub header_bytes : Equaliser → List ℕ
header_bytes e = e.p ∷ e.q ∷ e.n ∷ e.r ∷ e.l ∷ e.psi ∷ e.b ∷ e.bmax ∷ bytes 4 e.m

unfoldable pub image : Equaliser → List ℕ
image e = header_bytes e ++ (words weight_word (take (taps e) e.weights) ++ words datum_word (take (taps e) e.past))

abbrev pub image_length : Equaliser → ℕ
image_length e = end_place current (taps e)

-- ---- saving

unfoldable pub save_number : Equaliser → List ℕ → ℕ
save_number e buffer = cond (eqb (examined e) 0) (cond (leb (image_length e) (length buffer)) 0 7) (examined e)

-- the length that it answers, and the buffer that it leaves
abbrev pub save_length : Equaliser → List ℕ → ℕ
save_length e buffer = cond (eqb (save_number e buffer) 0) (image_length e) 0

abbrev pub save_buffer : Equaliser → List ℕ → List ℕ
save_buffer e buffer = cond (eqb (save_number e buffer) 0) (image e ++ drop (image_length e) buffer) buffer

-- the answer, and the lent buffer at the end
pub record Save (e : Equaliser) (before : List ℕ) (s : Saved) (after : List ℕ) : Type 0 where
  pub number : s.number ≡ save_number e before
  pub saved_length : s.length ≡ save_length e before
  pub contents : after ≡ save_buffer e before
