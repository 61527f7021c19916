-- Numbers from their bytes, and the bytes from them, at every width.
use mathlib.Core.Path.{◌≡◌, refl, sym, ap, ap₂, ◌∙◌}
use mathlib.Core.List.{List, [], ◌∷◌, ◌++◌, append_assoc, append-nil}
use Prim.Native.Nat.{ℕ, zero, suc, ◌+◌, ◌*◌, ◌/◌, ◌%◌, ◌^◌, ◌≤◌, ◌<◌}
use native.Mathlib.Omega.{arith}
use native.Mathlib.Nat.{zero-add, suc-add, mod-eq_of_lt}
use native.Mathlib.Numerals.{add-one}
use lib.ListN.{length, get_or, take, drop, length-append, length-drop, take-append-drop}
use lib.Seq.{length-take-le, take-suc, drop_at, drop-cons, get_or-take, get_or-drop}
use lib.IntN.{ℤ, pos}
use mir.Syntax.{Width, w8, w16, w32, w64, w128}
use mir.Val.{SFits, bits, of_z, to_z}
use mir.Facts.{to_z-of_z, of_z-to_z, Fits-of_z}
use Rattle.laws.specs.Sums.{Each, each_append, each_drop}
use Rattle.words.specs.Words.{Byte, bytes, byte_at, number_at, width, words, words_of}

-- ---- the bytes of a number

pub bytes_length : (k n : ℕ) → length (bytes k n) ≡ k
unfolding bytes
bytes_length zero n = refl
bytes_length (suc k) n = ap suc (bytes_length k (n / 256))

-- of two and of four, one by one
pub two_bytes : (n : ℕ) → bytes 2 n ≡ n % 256 ∷ n / 256 % 256 ∷ []
unfolding bytes
two_bytes n = refl

pub four_bytes : (n : ℕ) → bytes 4 n ≡ n % 256 ∷ n / 256 % 256 ∷ n / 256 / 256 % 256 ∷ n / 256 / 256 / 256 % 256 ∷ []
unfolding bytes
four_bytes n = refl

-- of a number that has no more
pub word_bytes_lem : (n : ℕ) → n < 65536 → bytes 2 n ≡ n % 256 ∷ n / 256 ∷ []
word_bytes_lem n h = two_bytes n ∙ ap (λ (b : ℕ). n % 256 ∷ b ∷ []) (mod-eq_of_lt (omega arith))

pub bytes_each : (k n : ℕ) → Each Byte (bytes k n)
unfolding bytes
bytes_each zero n = tt
bytes_each (suc k) n = (omega arith, bytes_each k (n / 256))

pub words_each : (w : Width) (l : List ℤ) → Each Byte (words w l)
unfolding words
words_each w [] = tt
words_each w (z ∷ l) = each_append Byte (bytes (width w) (of_z w z)) (words w l) (bytes_each (width w) (of_z w z)) (words_each w l)

-- ---- the number at a place

pub byte_below : (l : List ℕ) → Each Byte l → (i : ℕ) → byte_at l i < 256
byte_below [] h i = omega arith
byte_below (b ∷ l) h zero = h.0
byte_below (b ∷ l) h (suc i) = byte_below l h.1 i

-- behind a byte, and behind some
pub number_cons : (k b : ℕ) (l : List ℕ) (i : ℕ) → number_at k (b ∷ l) (suc i) ≡ number_at k l i
number_cons zero b l i = refl
number_cons (suc k) b l i = ap (λ (n : ℕ). byte_at l i + 256 * n) (ap (number_at k (b ∷ l)) (suc-add i 1) ∙ number_cons k b l (i + 1))

pub number_after : (k : ℕ) (a l : List ℕ) (i : ℕ) → number_at k (a ++ l) (length a + i) ≡ number_at k l i
number_after k [] l i = ap (number_at k l) (zero-add i)
number_after k (b ∷ a) l i = ap (number_at k (b ∷ (a ++ l))) (suc-add (length a) i) ∙ number_cons k b (a ++ l) (length a + i) ∙ number_after k a l i

pub number_drop : (k j : ℕ) (l : List ℕ) (i : ℕ) → number_at k (drop j l) i ≡ number_at k l (j + i)
number_drop zero j l i = refl
number_drop (suc k) j l i =
    let e : j + (i + 1) ≡ j + i + 1 = omega arith in
    ap₂ (λ (a n : ℕ). a + 256 * n) (get_or-drop j l i 0) (number_drop k j l (i + 1) ∙ ap (number_at k l) e)

pub number_take : (k m : ℕ) (l : List ℕ) (i : ℕ) → i + k ≤ m → number_at k (take m l) i ≡ number_at k l i
number_take zero m l i h = refl
number_take (suc k) m l i h = ap₂ (λ (a n : ℕ). a + 256 * n) (get_or-take m l i 0 (omega arith)) (number_take k m l (i + 1) (omega arith))

-- of the bytes of a number
pub number_front : (k n : ℕ) (l : List ℕ) → n < 256 ^ k → number_at k (bytes k n ++ l) 0 ≡ n
unfolding bytes
number_front zero n l h = omega arith
number_front (suc k) n l h =
    let e = number_cons k (n % 256) (bytes k (n / 256) ++ l) 0 ∙ number_front k (n / 256) l (omega arith) in
    omega (arith, e)

module _ (l : List ℕ) (h : (i : ℕ) → byte_at l i < 256) where
  pub number_below : (k i : ℕ) → number_at k l i < 256 ^ k
  number_below zero i = omega arith
  number_below (suc k) i = more (byte_at l i) (number_at k l (i + 1)) k (h i) (number_below k (i + 1))
    where
      more : (b n k : ℕ) → b < 256 → n < 256 ^ k → b + 256 * n < 256 ^ suc k
      more b n k h j = omega arith

  -- the bytes of the number at a place
  pub bytes_number : (k i : ℕ) → i + k ≤ length l → bytes k (number_at k l i) ≡ take k (drop i l)
  unfolding bytes
  bytes_number zero i e = refl
  bytes_number (suc k) i e =
      ap₂ (λ (a : ℕ) (r : List ℕ). a ∷ r) (low (byte_at l i) (number_at k l (i + 1)) (h i))
      (ap (bytes k) (high (byte_at l i) (number_at k l (i + 1)) (h i)) ∙ bytes_number k (i + 1) (omega arith) ∙ ap (λ (j : ℕ). take k (drop j l)) (add-one i))
      ∙ sym (ap (take (suc k)) (drop-cons l i 0 (omega arith)))
    where
      low : (b n : ℕ) → b < 256 → (b + 256 * n) % 256 ≡ b
      low b n h = omega arith

      high : (b n : ℕ) → b < 256 → (b + 256 * n) / 256 ≡ n
      high b n h = omega arith

-- the bytes from i on, one by one
abbrev pub each : ℕ → ℕ → List ℕ → List ℕ
each i zero l = []
each i (suc n) l = byte_at l i ∷ each (suc i) n l

pub take_each : (n i : ℕ) (l : List ℕ) → i + n ≤ length l → take n (drop i l) ≡ each i n l
take_each zero i l h = refl
take_each (suc n) i l h = ap (take (suc n)) (drop-cons l i 0 (omega arith)) ∙ ap (λ (r : List ℕ). byte_at l i ∷ r) (take_each n (suc i) l (omega arith))

-- ---- lists of numbers of one width

width_bits : (w : Width) → 256 ^ width w ≡ 2 ^ bits w
width_bits w8 = refl
width_bits w16 = refl
width_bits w32 = refl
width_bits w64 = refl
width_bits w128 = refl

module _ (w : Width) where
  words_append : (a b : List ℤ) → words w (a ++ b) ≡ words w a ++ words w b
  unfolding words
  words_append [] b = refl
  words_append (z ∷ a) b = ap (λ (l : List ℕ). bytes (width w) (of_z w z) ++ l) (words_append a b) ∙ sym (append_assoc (bytes (width w) (of_z w z)) (words w a) (words w b))

  words_length : (l : List ℤ) → length (words w l) ≡ width w * length l
  unfolding words
  words_length [] = omega arith
  words_length (z ∷ l) = length-append (bytes (width w) (of_z w z)) (words w l) ∙ omega (arith, bytes_length (width w) (of_z w z), words_length l)

  -- of the first n numbers
  pub words_long : (n : ℕ) (l : List ℤ) → n ≤ length l → length (words w (take n l)) ≡ width w * n
  words_long n l h = words_length (take n l) ∙ ap (λ (k : ℕ). width w * k) (length-take-le n l h)

  pub words_none : words w [] ≡ []
  unfolding words
  words_none = refl

  pub words_next : (l : List ℤ) (i : ℕ) → i < length l → words w (take (i + 1) l) ≡ words w (take i l) ++ bytes (width w) (of_z w (get_or l i (pos 0)))
  unfolding words
  words_next l i h =
      ap (λ (n : ℕ). words w (take n l)) (add-one i) ∙ ap (words w) (take-suc l i (pos 0) h) ∙ words_append (take i l) (get_or l i (pos 0) ∷ [])
      ∙ ap (λ (r : List ℕ). words w (take i l) ++ r) (append-nil (bytes (width w) (of_z w (get_or l i (pos 0)))))

  pub words_count : (n : ℕ) (l : List ℕ) → length (words_of w n l) ≡ n
  unfolding words_of
  words_count zero l = refl
  words_count (suc n) l = ap suc (words_count n (drop (width w) l))

  -- word i of n
  pub word_at : (n i : ℕ) (l : List ℕ) → i < n → get_or (words_of w n l) i (pos 0) ≡ to_z w (number_at (width w) l (width w * i))
  unfolding words_of
  word_at zero i l h = absurd (omega arith)
  word_at (suc n) zero l h = let e : 0 ≡ width w * 0 = omega arith in ap (λ (j : ℕ). to_z w (number_at (width w) l j)) e
  word_at (suc n) (suc i) l h =
      let e : width w + width w * i ≡ width w * suc i = omega arith in
      word_at n i (drop (width w) l) (omega arith)
      ∙ ap (to_z w) (number_drop (width w) (width w) l (width w * i) ∙ ap (number_at (width w) l) e)

  pub words_back : (l : List ℤ) → Each (SFits w) l → words_of w (length l) (words w l) ≡ l
  unfolding words words_of
  words_back [] h = refl
  words_back (z ∷ l) h =
      ap₂ (λ (a : ℤ) (r : List ℤ). a ∷ r)
      (ap (to_z w) (number_front (width w) (of_z w z) (words w l) (rw (width_bits w) (Fits-of_z h.0).fits)) ∙ to_z-of_z h.0)
      (ap (words_of w (length l)) (drop_at (bytes (width w) (of_z w z)) (words w l) (width w) (bytes_length (width w) (of_z w z))) ∙ words_back l h.1)

  word_back : (l : List ℕ) → width w ≤ length l → Each Byte l → bytes (width w) (of_z w (to_z w (number_at (width w) l 0))) ≡ take (width w) l
  word_back l e h = ap (bytes (width w)) (of_z-to_z {w = w} (record { fits = below })) ∙ bytes_number l (byte_below l h) (width w) 0 (omega (arith, e))
    where
      below : number_at (width w) l 0 < 2 ^ bits w
      below = rw (sym (width_bits w)) (number_below l (byte_below l h) (width w) 0)

  -- for a list of n numbers
  pub words_forth : (n : ℕ) (l : List ℕ) → length l ≡ width w * n → Each Byte l → words w (words_of w n l) ≡ l
  unfolding words words_of
  words_forth zero [] e h = refl
  words_forth zero (b ∷ l) e h = absurd (omega arith)
  words_forth (suc n) l e h =
      ap₂ (λ (x y : List ℕ). x ++ y) (word_back l (omega (arith, e)) h)
      (words_forth n (drop (width w) l) (omega (arith, e, length-drop (width w) l)) (each_drop Byte (width w) l h))
      ∙ take-append-drop (width w) l
