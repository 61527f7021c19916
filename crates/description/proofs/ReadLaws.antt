-- The tests of a description, and what they give.
use mathlib.Core.Path.{◌≡◌}
use mathlib.Core.Bool.{true, false, ◌&&◌}
use mathlib.Core.List.{List}
use Prim.Native.Nat.{ℕ, ◌≤◌, ◌<◌}
use native.Mathlib.Omega.{arith}
use lib.Dec.{leb, eqb}
use lib.ListN.{length}
use borrow.Author.Tests.{le-leb, lt-leb, leb-true, eqb-true}
use Rattle.laws.specs.Lists.{and_left, and_right}
use Rattle.words.specs.Words.{byte_at}
use Rattle.description.specs.Description.{description_header_length, description_limit, description_end, well_described}

module _ (t : List ℕ) where
  pub well_short : length t < description_header_length → well_described t ≡ false
  unfolding well_described
  well_short h = simp (lt-leb description_header_length (length t) h)

  pub well_large : description_limit < length t → well_described t ≡ false
  unfolding well_described
  well_large h =
      let g : description_header_length ≤ length t = omega arith in
      simp (le-leb description_header_length (length t) g, lt-leb (length t) description_limit h)

  module _ (h : description_header_length ≤ length t) (k : length t ≤ description_limit) where
    pub well_tested : well_described t ≡ (eqb (length t) (description_end t) && eqb (byte_at t 5) 0)
    unfolding well_described
    well_tested = simp (le-leb description_header_length (length t) h, le-leb (length t) description_limit k)

  module _ (h : well_described t ≡ true) where
    lengths : (leb description_header_length (length t) && leb (length t) description_limit && eqb (length t) (description_end t)) ≡ true
    unfolding well_described
    lengths = and_left _ (eqb (byte_at t 5) 0) h

    pub well_most : length t ≤ description_limit
    well_most = leb-true (length t) description_limit (and_right (leb description_header_length (length t)) _ (and_left _ _ lengths))

    pub well_long : length t ≡ description_end t
    well_long = eqb-true (length t) (description_end t) (and_right (leb description_header_length (length t) && leb (length t) description_limit) _ lengths)
