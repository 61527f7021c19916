-- The bytes of samples and of training entries, as loops put them.
use mathlib.Core.Path.{◌≡◌, refl, sym, ap, ap₂, ◌∙◌}
use mathlib.Core.Bool.{Bool, true, false, cond, ◌&&◌, ◌||◌, not, and-true}
use mathlib.Core.List.{List, [], ◌∷◌, ◌++◌, append-nil, append_assoc}
use Prim.Native.Nat.{ℕ, zero, suc, ◌+◌, ◌*◌, ◌-◌, ◌/◌, ◌%◌, ◌^◌, ◌≤◌, ◌<◌}
use native.Mathlib.Omega.{arith}
use native.Mathlib.Nat.{mod-eq_of_lt}
use native.Mathlib.Numerals.{add-one}
use lib.Dec.{leb, ltb, eqb}
use lib.ListN.{length, get_or, take, drop, length-append, length-drop, drop_of_length-le, get_or-append, replicate, length-replicate, get_or-replicate}
use lib.Seq.{sets, sets-eq, length-sets, length-take-le, take-append-le, take-append-add, drop_at, get_or-take, get_or-drop, ext_get_or}
use lib.IntN.{ℤ, pos, negsuc, nat_abs}
use mir.Syntax.{w8, w16, w32}
use mir.Val.{SFits, to_z, of_z}
use mir.Facts.{to_z-of_z}
use borrow.Author.Tests.{eqb-true, ltb-true, ltb-false}
use borrow.Rule.Slice.PartMut.{put_mid, Post-is}
use Rattle.std.specs.Int.{to_le_bytes}
use Rattle.laws.specs.Values.{values, values_length, values_at, joined, joined_none, joined_next}
use Rattle.laws.specs.Lent.{next_part}
use Rattle.words.specs.Words.{bytes}
use Rattle.words.proofs.ByteLaws.{bytes_length, four_bytes, word_bytes_lem}
use Rattle.words.proofs.LibraryLaws.{le_bytes_four}
use Rattle.steps.specs.Settings.{is_symbol, is_entry}
use Rattle.cable_trace.specs.Calls.{gain_unit, NotNegative, word_bytes, stored_words}

-- ---- four bytes of each word, three places apart

-- a part that is replaced
part_sets : (b o : List ℕ) (a : ℕ) → a + length b ≤ length o → put_mid a (a + length b - a) o b ≡ sets o a b
part_sets b o a h = ap (λ (r : List ℕ). take a o ++ (b ++ r)) (Post-is a (a + length b) o (omega arith)) ∙ sym (sets-eq b o a h ∙ append_assoc (take a o) b (drop (a + length b) o))

-- the bytes of a word that is not negative
pub word_stored : (z : ℤ) → SFits w32 z → NotNegative z → to_le_bytes w32 (of_z w32 (to_z w32 (of_z w32 z))) ≡ bytes 4 (nat_abs z)
word_stored z f e = ap (λ (x : ℤ). to_le_bytes w32 (of_z w32 x)) (to_z-of_z f ∙ e) ∙ le_bytes_four (nat_abs z)

module _ (words : List ℤ) (out : List ℕ) where
  pub stored_none : stored_words words out 0 ≡ out
  unfolding stored_words
  stored_none = refl

  pub stored_long : (n : ℕ) → length (stored_words words out n) ≡ length out
  unfolding stored_words
  stored_long zero = refl
  stored_long (suc n) = length-sets (stored_words words out n) (3 * n) (word_bytes words n) ∙ stored_long n

  pub stored_next : (i w : ℕ) → w ≡ nat_abs (get_or words i (pos 0)) → sets (stored_words words out i) (3 * i) (bytes 4 w) ≡ stored_words words out (i + 1)
  unfolding stored_words
  stored_next i w e = ap (λ (n : ℕ). sets (stored_words words out i) (3 * i) (bytes 4 n)) e ∙ ap (stored_words words out) (sym (add-one i))

  -- one word more, whose bytes replace a part
  pub stored_part : (i : ℕ) (o b : List ℕ) → o ≡ stored_words words out i → b ≡ word_bytes words i → 3 * i + 4 ≤ length out → put_mid (3 * i) (3 * i + 4 - 3 * i) o b ≡ stored_words words out (i + 1)
  stored_part i o b e f h =
      let four : length (word_bytes words i) ≡ 4 = bytes_length 4 (nat_abs (get_or words i (pos 0))) in
      let room : 3 * i + length (word_bytes words i) ≤ length (stored_words words out i) = omega (arith, four, stored_long i) in
      ap₂ (put_mid (3 * i) (3 * i + 4 - 3 * i)) e f
      ∙ ap (λ (n : ℕ). put_mid (3 * i) (3 * i + n - 3 * i) (stored_words words out i) (word_bytes words i)) (sym four)
      ∙ part_sets (word_bytes words i) (stored_words words out i) (3 * i) room ∙ stored_next i (nat_abs (get_or words i (pos 0))) refl

  -- what the next word leaves of each
  pub stored_front : (n : ℕ) → 3 * n < length out → take (3 * n) (stored_words words out n) ≡ joined (λ i. take 3 (word_bytes words i)) n
  unfolding stored_words
  stored_front zero h = sym (joined_none (λ i. take 3 (word_bytes words i)))
  stored_front (suc n) h =
      let l = stored_words words out n in
      let next : 3 * suc n ≡ 3 * n + 3 = omega arith in
      ap₂ take next (sets-eq (word_bytes words n) l (3 * n) (omega (arith, stored_long n, four)))
      ∙ take-append-le (3 * n + 3) (take (3 * n) l ++ word_bytes words n) _ (omega (arith, length-append (take (3 * n) l) (word_bytes words n), before, four))
      ∙ ap (λ (m : ℕ). take (m + 3) (take (3 * n) l ++ word_bytes words n)) (sym before) ∙ take-append-add (take (3 * n) l) (word_bytes words n) 3
      ∙ ap (λ (x : List ℕ). x ++ take 3 (word_bytes words n)) (stored_front n (omega arith)) ∙ sym (joined_next (λ i. take 3 (word_bytes words i)) n)
    where
      before : length (take (3 * n) (stored_words words out n)) ≡ 3 * n
      before = length-take-le (3 * n) (stored_words words out n) (omega (arith, stored_long n))

      four : length (word_bytes words n) ≡ 4
      four = bytes_length 4 (nat_abs (get_or words n (pos 0)))

-- the lowest byte, and the rest
lowest : (x a b : ℕ) → x ≡ a + 256 * b → a < 256 → (x % 256 ≡ a) × (x / 256 ≡ b)
lowest x a b e h = (omega arith, omega arith)

-- the bytes of a sample and its gain
pub word_is : (w g : ℕ) → w < gain_unit → g < 256 → take 3 (bytes 4 (w + gain_unit * g)) ≡ bytes 2 w ++ (g ∷ [])
word_is w g h k =
    let x = w + gain_unit * g in
    let one = lowest x (w % 256) (w / 256 + 256 * g) (omega arith) (omega arith) in
    let two = lowest (x / 256) (w / 256) g one.1 (omega arith) in
    let three : x / 256 / 256 % 256 ≡ g = ap (λ (y : ℕ). y % 256) two.1 ∙ mod-eq_of_lt k in
    ap (take 3) (four_bytes x) ∙ ap₂ (λ (a b : ℕ). a ∷ b ∷ (x / 256 / 256 % 256) ∷ []) one.0 two.0
    ∙ ap (λ (c : ℕ). (w % 256) ∷ (w / 256) ∷ c ∷ []) three ∙ ap (λ (l : List ℕ). l ++ (g ∷ [])) (sym (word_bytes_lem w h))

-- ---- a byte

-- the lower byte of a number of 8 bits that has 16
pub lower_byte : (z : ℤ) → SFits w8 z → of_z w16 z % 256 ≡ of_z w8 z
lower_byte (pos n) f = omega (arith, f.sfits)
lower_byte (negsuc n) f = omega (arith, f.sfits)

-- ---- a symbol is an entry that is not 0

pub entry_symbol : (r : ℕ) (v : ℤ) → (is_entry r v && not (eqb (nat_abs v) 0)) ≡ is_symbol r v
entry_symbol r v = go (eqb (nat_abs v) 0) refl
  where
    go : (b : Bool) → eqb (nat_abs v) 0 ≡ b → ((b || is_symbol r v) && not b) ≡ is_symbol r v
    go true e = sym (ap (λ (n : ℕ). eqb (n % 2) 1 && leb n (2 ^ (r + 1) - 1)) (eqb-true (nat_abs v) 0 e))
    go false e = and-true (is_symbol r v)

-- ---- the training entries in two parts

-- the bytes of symbols that all are training entries, or of none
abbrev pub part_bytes : Bool → List ℤ → ℕ → ℕ
part_bytes trained symbols n = of_z w8 (cond trained (get_or symbols n (pos 0)) (pos 0))

-- of none
pub none_bytes : (symbols : List ℤ) (n : ℕ) → replicate n 0 ≡ values (part_bytes false symbols) n
none_bytes symbols n =
    ext_get_or 0 (replicate n 0) (values (part_bytes false symbols) n) (length-replicate {A = ℕ} n 0 ∙ sym (values_length _ n))
    (λ i h. let l : i < n = omega (arith, length-replicate {A = ℕ} n 0) in get_or-replicate n i 0 0 l ∙ sym (values_at (part_bytes false symbols) 0 n i l))

-- what is there when the bytes of the first t symbols are
filled_long : (symbols : List ℤ) (before u : List ℕ) (t : ℕ) → t ≤ length symbols → length before ≡ length symbols → u ≡ values (part_bytes true (take t symbols)) (length (take t symbols)) →
    length (u ++ drop t before) ≡ length symbols
filled_long symbols before u t h long eu =
    length-append u (drop t before) ∙ omega (arith, ap length eu ∙ values_length _ _ ∙ length-take-le t symbols h, length-drop t before)

-- what is left after them, filled with 0
pub rest_none : (symbols : List ℤ) (before u v : List ℕ) (t : ℕ) → t ≤ length symbols → length before ≡ length symbols → u ≡ values (part_bytes true (take t symbols)) (length (take t symbols)) →
    v ≡ replicate (length (take (length (u ++ drop t before) - t) (drop t (u ++ drop t before)))) 0 →
    v ≡ values (part_bytes false (take (length symbols - t) (drop t symbols))) (length (take (length symbols - t) (drop t symbols)))
rest_none symbols before u v t h long eu ev = ev ∙ ap (λ (n : ℕ). replicate n 0) same ∙ none_bytes (take (length symbols - t) (drop t symbols)) _
  where
    same : length (take (length (u ++ drop t before) - t) (drop t (u ++ drop t before))) ≡ length (take (length symbols - t) (drop t symbols))
    same =
        length-take-le (length (u ++ drop t before) - t) (drop t (u ++ drop t before)) (omega (arith, length-drop t (u ++ drop t before)))
        ∙ ap (λ (n : ℕ). n - t) (filled_long symbols before u t h long eu) ∙ sym (length-take-le (length symbols - t) (drop t symbols) (omega (arith, length-drop t symbols)))

module _ (symbols : List ℤ) (before u v : List ℕ) (t m : ℕ) (h : t ≤ length symbols) (long : length before ≡ length symbols) (same : m ≡ t)
    (eu : u ≡ values (part_bytes true (take m symbols)) (length (take m symbols)))
    (ev : v ≡ values (part_bytes false (take (length symbols - t) (drop t symbols))) (length (take (length symbols - t) (drop t symbols)))) where
  first_long : length (take m symbols) ≡ t
  first_long = length-take-le m symbols (omega (arith, same)) ∙ same

  last_long : length (take (length symbols - t) (drop t symbols)) ≡ length symbols - t
  last_long = length-take-le (length symbols - t) (drop t symbols) (omega (arith, length-drop t symbols))

  long_u : length u ≡ t
  long_u = ap length eu ∙ values_length _ _ ∙ first_long

  long_v : length v ≡ length symbols - t
  long_v = ap length ev ∙ values_length _ _ ∙ last_long

  at : (j : ℕ) → j < length symbols → get_or (u ++ v) j 0 ≡ part_bytes (ltb j t) symbols j
  at j l = go (ltb j t) refl
    where
      go : (b : Bool) → ltb j t ≡ b → get_or (u ++ v) j 0 ≡ part_bytes b symbols j
      go true e =
          let k : j < t = ltb-true j t e in
          get_or-append u v 0 j (omega (arith, long_u)) ∙ ap (λ (l : List ℕ). get_or l j 0) eu
          ∙ values_at (part_bytes true (take m symbols)) 0 (length (take m symbols)) j (omega (arith, first_long))
          ∙ ap (λ (z : ℤ). of_z w8 z) (get_or-take m symbols j (pos 0) (omega (arith, same)))
      go false e =
          let k : t + (j - t) ≡ j = omega (arith, ltb-false j t e) in
          ap (λ (i : ℕ). get_or (u ++ v) i 0) (sym k) ∙ sym (get_or-drop t (u ++ v) (j - t) 0) ∙ ap (λ (l : List ℕ). get_or l (j - t) 0) (drop_at u v t long_u ∙ ev)
          ∙ values_at (part_bytes false (take (length symbols - t) (drop t symbols))) 0 _ (j - t) (omega (arith, last_long, ltb-false j t e))

  pub entries_put : put_mid t (length symbols - t) (u ++ drop m before) v ≡ values (λ n. part_bytes (ltb n t) symbols n) (length symbols)
  entries_put =
      ap (λ (i : ℕ). put_mid t (length symbols - t) (u ++ drop i before) v) same ∙ next_part u v before t (length symbols) long_u (omega (arith, long_v))
      ∙ ap (λ (l : List ℕ). (u ++ v) ++ l) (drop_of_length-le before {i = length symbols} (omega (arith, long))) ∙ append-nil (u ++ v)
      ∙ ext_get_or 0 (u ++ v) (values (λ n. part_bytes (ltb n t) symbols n) (length symbols)) (whole ∙ sym (values_length _ _))
      (λ j k. let l : j < length symbols = omega (arith, whole) in at j l ∙ sym (values_at (λ n. part_bytes (ltb n t) symbols n) 0 (length symbols) j l))
    where
      whole : length (u ++ v) ≡ length symbols
      whole = length-append u v ∙ omega (arith, long_u, long_v)

-- in two parts of what is there
pub entries_filled : (symbols : List ℤ) (before u v : List ℕ) (t : ℕ) → t ≤ length symbols → length before ≡ length symbols → u ≡ values (part_bytes true (take t symbols)) (length (take t symbols)) →
    v ≡ values (part_bytes false (take (length symbols - t) (drop t symbols))) (length (take (length symbols - t) (drop t symbols))) →
    put_mid t (length (u ++ drop t before) - t) (u ++ drop t before) v ≡ values (λ n. part_bytes (ltb n t) symbols n) (length symbols)
entries_filled symbols before u v t h long eu ev =
    ap (λ (n : ℕ). put_mid t (n - t) (u ++ drop t before) v) (filled_long symbols before u t h long eu) ∙ entries_put symbols before u v t t h long refl eu ev
