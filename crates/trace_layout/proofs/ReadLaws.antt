-- The tests of a well-formed trace.
use mathlib.Core.Path.{◌≡◌}
use mathlib.Core.Bool.{true, false, ◌&&◌}
use mathlib.Core.List.{List}
use Prim.Native.Nat.{ℕ, ◌+◌, ◌*◌, ◌≤◌, ◌<◌}
use native.Mathlib.Omega.{arith}
use native.Mathlib.Nat.{mul-le-mul_right}
use lib.Dec.{leb, eqb}
use lib.ListN.{length}
use borrow.Author.Tests.{le-leb, lt-leb, leb-true, eqb-true}
use Rattle.laws.specs.Lists.{and_left, and_right}
use Rattle.words.specs.Words.{byte_at}
use Rattle.trace_layout.specs.Trace.{trace_header_length, trace_limit, samples_in, well_formed}

module _ (t : List ℕ) where
  -- one after the other
  pub well_short : length t < trace_header_length → well_formed t ≡ false
  unfolding well_formed
  well_short h = simp (lt-leb trace_header_length (length t) h)

  pub well_large : trace_limit < length t → well_formed t ≡ false
  unfolding well_formed
  well_large h =
      let g : trace_header_length ≤ length t = omega arith in
      simp (le-leb trace_header_length (length t) g, lt-leb (length t) trace_limit h)

  module _ (h : trace_header_length ≤ length t) (k : length t ≤ trace_limit) where
    pub well_tested : well_formed t ≡ (eqb (length t) (trace_header_length + 4 * samples_in t) && eqb (byte_at t 5) 0)
    unfolding well_formed
    well_tested = simp (le-leb trace_header_length (length t) h, le-leb (length t) trace_limit k)

  -- what they give
  module _ (h : well_formed t ≡ true) where
    lengths : (leb trace_header_length (length t) && leb (length t) trace_limit && eqb (length t) (trace_header_length + 4 * samples_in t)) ≡ true
    unfolding well_formed
    lengths = and_left _ (eqb (byte_at t 5) 0) h

    pub well_most : length t ≤ trace_limit
    well_most = leb-true (length t) trace_limit (and_right (leb trace_header_length (length t)) _ (and_left _ _ lengths))

    pub well_long : length t ≡ trace_header_length + 4 * samples_in t
    well_long = eqb-true (length t) _ (and_right (leb trace_header_length (length t) && leb (length t) trace_limit) _ lengths)

-- the samples of a header are few
pub few : (b c : ℕ) → b < 256 → c < 65536 → b * c ≤ 255 * 65535
few b c h k = omega (arith, mul-le-mul_right c le)
  where
    le : b ≤ 255
    le = omega arith
