-- Numbers as bytes, the lowest byte first.
use Rattle.std.specs.Prelude.{List, [], ◌∷◌, ◌++◌, ℕ, zero, suc, ◌+◌, ◌*◌, ◌/◌, ◌%◌, ◌<◌, get_or, drop, ℤ}
use Rattle.std.specs.Int.{Width}
use Rattle.std.proofs.Common.{of_z, to_z}
use mir.Val as Val

abbrev pub Byte : ℕ → Type 0
Byte b = b < 256

-- the lowest k bytes of n
unfoldable pub bytes : ℕ → ℕ → List ℕ
bytes zero n = []
bytes (suc k) n = n % 256 ∷ bytes k (n / 256)

-- the byte at a place, 0 beyond the end
abbrev pub byte_at : List ℕ → ℕ → ℕ
byte_at l i = get_or l i 0

-- the number of the k bytes from place i on
abbrev pub number_at : ℕ → List ℕ → ℕ → ℕ
number_at zero l i = 0
number_at (suc k) l i = byte_at l i + 256 * number_at k l (i + 1)

-- ---- signed numbers of one width

-- the bytes of a signed number of 8, 16, 32 or more bits
abbrev pub width : Width → ℕ
width w = Val.bytes w

-- signed numbers of one width, one after another
unfoldable pub words : Width → List ℤ → List ℕ
words w [] = []
words w (z ∷ l) = bytes (width w) (of_z w z) ++ words w l

-- the first n signed numbers of one width
unfoldable pub words_of : Width → ℕ → List ℕ → List ℤ
words_of w zero l = []
words_of w (suc n) l = to_z w (number_at (width w) l 0) ∷ words_of w n (drop (width w) l)
