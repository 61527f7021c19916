-- The layouts that a saved image has had, and which of them some bytes have.
use Rattle.std.specs.Prelude.{cond, List, [], ◌∷◌, ℕ, ◌+◌, ◌*◌, eqb, length}
use Rattle.std.specs.Int.{Width, w16}
use Rattle.words.specs.Words.{byte_at, width}
use Rattle.image.specs.declared.layout.Layout.{Layout}

-- a weight has 16 bits, and so has a datum
abbrev pub weight_word : Width
weight_word = w16

abbrev pub datum_word : Width
datum_word = w16

-- what a save writes: bytes before the weights, and of a weight
abbrev pub current : Layout
current = record { header = 12; weight = width weight_word }

-- every layout there has been, newest first, and the shortest of their headers
abbrev pub layouts : List Layout
layouts = current ∷ []

abbrev pub least_header : ℕ
least_header = 12

-- where the data begin, and where an image ends, from the number of taps
abbrev pub data_place : Layout → ℕ → ℕ
data_place y t = y.header + y.weight * t

abbrev pub end_place : Layout → ℕ → ℕ
end_place y t = data_place y t + width datum_word * t

-- p + q
abbrev pub taps_in : List ℕ → ℕ
taps_in l = byte_at l 0 + byte_at l 1

-- the first of some layouts whose image of t taps has n bytes, or else the current one
unfoldable pub layout_for : List Layout → ℕ → ℕ → Layout
layout_for [] t n = current
layout_for (y ∷ ys) t n = cond (eqb n (end_place y t)) y (layout_for ys t n)

abbrev pub layout_of : List ℕ → Layout
layout_of l = layout_for layouts (taps_in l) (length l)
