-- What the library's conversions to bytes and from them say in our words.
use mathlib.Core.Path.{◌≡◌, sym}
use mathlib.Core.List.{List, [], ◌∷◌}
use Prim.Native.Nat.{ℕ, ◌+◌, ◌/◌}
use native.Mathlib.Omega.{arith}
use Rattle.std.specs.Int.{w16, w32, from_le_bytes, to_le_bytes}
use Rattle.words.specs.Words.{bytes, byte_at, number_at}
use Rattle.words.proofs.ByteLaws.{two_bytes, four_bytes}

-- ---- of a number

pub le_bytes_two : (n : ℕ) → to_le_bytes w16 n ≡ bytes 2 n
le_bytes_two n = sym (two_bytes n)

pub le_bytes_four : (n : ℕ) → to_le_bytes w32 n ≡ bytes 4 n
le_bytes_four n =
    let two : n / 65536 ≡ n / 256 / 256 = omega arith in
    let three : n / 16777216 ≡ n / 256 / 256 / 256 = omega arith in
    rw (two, three) (sym (four_bytes n))

-- ---- at a place

pub number_two : (l : List ℕ) (i : ℕ) → from_le_bytes w16 (byte_at l i ∷ byte_at l (i + 1) ∷ []) ≡ number_at 2 l i
number_two l i = omega arith

pub number_four : (l : List ℕ) (i : ℕ) →
    from_le_bytes w32 (byte_at l i ∷ byte_at l (i + 1) ∷ byte_at l (i + 2) ∷ byte_at l (i + 3) ∷ []) ≡ number_at 4 l i
number_four l i =
    let two : i + 2 ≡ i + 1 + 1 = omega arith in
    let three : i + 3 ≡ i + 1 + 1 + 1 = omega arith in
    rw (two, three) (omega arith)
