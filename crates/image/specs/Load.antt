-- The state that bytes hold, and what loading answers.
use Rattle.std.specs.Prelude.{cond, List, ◌≡◌, ℕ, ◌*◌, leb, eqb, length, take, drop, ℤ}
use Rattle.words.specs.Words.{byte_at, number_at, width, words_of}
use Rattle.state.specs.Sizes.{sizes_fit}
use Rattle.state.specs.State.{settings, padded, refused}
use Rattle.state.specs.Answers.{examined}
use Rattle.image.specs.Layout.{weight_word, datum_word, least_header, data_place, end_place, taps_in, layout_of}
use Rattle.image.specs.declared.layout.Layout.{Layout}
use Rattle.state.specs.declared.equaliser.Equaliser.{Equaliser}
use Rattle.state.specs.declared.equaliser.Answer.{Answer}

-- ---- the parts of an image

abbrev pub weight_bytes : Layout → List ℕ → List ℕ
weight_bytes y l = take (y.weight * taps_in l) (drop y.header l)

abbrev pub past_bytes : Layout → List ℕ → List ℕ
past_bytes y l = take (width datum_word * taps_in l) (drop (data_place y (taps_in l)) l)

-- the weights that bytes of a layout hold
abbrev pub weights_by : Layout → List ℕ → List ℤ
weights_by y l = words_of weight_word (taps_in l) (weight_bytes y l)

-- the state that bytes of a layout hold
unfoldable pub state_by : Layout → List ℕ → Equaliser
state_by y l = record {
  p = byte_at l 0;
  q = byte_at l 1;
  n = byte_at l 2;
  r = byte_at l 3;
  l = byte_at l 4;
  psi = byte_at l 5;
  b = byte_at l 6;
  bmax = byte_at l 7;
  m = number_at 4 l 8;
  weights = padded (weights_by y l);
  past = padded (words_of datum_word (taps_in l) (past_bytes y l));
}

-- by the layout that their length tells
abbrev pub state_in : List ℕ → Equaliser
state_in l = state_by (layout_of l) l

-- ---- loading

-- the checks of the bytes alone: 8 below the shortest header, 1 on the sizes, 8 if the length isn't exact
unfoldable pub frame_number : List ℕ → ℕ
frame_number l =
    cond (leb least_header (length l)) (cond (sizes_fit (settings (state_in l))) (cond (eqb (length l) (end_place (layout_of l) (taps_in l))) 0 8) 1) 8

-- then 2 and 9
unfoldable pub load_number : List ℕ → ℕ
load_number l = cond (eqb (frame_number l) 0) (examined (state_in l)) (frame_number l)

unfoldable pub load_state : List ℕ → Equaliser
load_state l = cond (eqb (load_number l) 0) (state_in l) refused

-- the answer
pub record Load (bytes : List ℕ) (a : Answer) : Type 0 where
  pub number : a.number ≡ load_number bytes
  pub state : a.state ≡ load_state bytes
