-- The digits of a number, how many there are, and that the library prints them.
use mathlib.Core.Path.{◌≡◌, refl, sym, ap, ap₂, ◌∙◌}
use mathlib.Core.List.{List, [], ◌∷◌, ◌++◌, append_assoc}
use Prim.Native.Nat.{ℕ, zero, suc, ◌+◌, ◌/◌, ◌%◌, ◌^◌, ◌≤◌, ◌<◌}
use native.Mathlib.Omega.{arith}
use native.Mathlib.Nat.{pow-suc}
use native.Mathlib.Numerals.{add-one}
use native.Mathlib.Decide.{dec_lt}
use lib.ListN.{length, take, drop, set, length-append, length-set}
use lib.Dec.{ltb→lt}
use lib.IntN.{ℤ, pos, negsuc, nat_abs}
use lib.Signed.{◌≤ℤ◌, ◌<ℤ◌}
use borrow.Author.Tests.{lt-ltb, le-ltb}
use Rattle.std.specs.Fmt as Library
use Rattle.std.proofs.lemmas.Fmt as Printed
use lib.Seq.{set_split, drop_at, length-take-le, take-set-le, append_snoc}
use Rattle.trace_text.specs.Calls.{TextAt}
use Rattle.trace_text.proofs.TextAtLaws.{same_drop, text_none}
use Rattle.trace_text.specs.Decimal.{decimal_digits, decimal, signed_decimal}

-- ---- the digits, one after the other

digits_one : (d n : ℕ) → n < 10 → decimal_digits d n ≡ (48 + n) ∷ []
unfolding decimal_digits
digits_one zero n h = ap (λ (m : ℕ). (48 + m) ∷ []) (omega arith)
digits_one (suc d) n h = simp (lt-ltb n 10 h)

digits_more : (d n : ℕ) → 10 ≤ n → decimal_digits (suc d) n ≡ decimal_digits d (n / 10) ++ ((48 + n % 10) ∷ [])
unfolding decimal_digits
digits_more d n h = simp (le-ltb n 10 h)

-- any limit that a number does not pass gives the same digits
enough : (d e n : ℕ) → n ≤ d → n ≤ e → decimal_digits d n ≡ decimal_digits e n
enough zero e n h k = digits_one zero n (omega arith) ∙ sym (digits_one e n (omega arith))
enough (suc d) zero n h k = digits_one (suc d) n (omega arith) ∙ sym (digits_one zero n (omega arith))
enough (suc d) (suc e) n h k = go (dec_lt n 10) (λ l. enough d e (n / 10) (omega arith) (omega arith))
  where
    go : Dec (n < 10) → (10 ≤ n → decimal_digits d (n / 10) ≡ decimal_digits e (n / 10)) → decimal_digits (suc d) n ≡ decimal_digits (suc e) n
    go (yes l) rest = digits_one (suc d) n l ∙ sym (digits_one (suc e) n l)
    go (no l) rest =
        let m : 10 ≤ n = omega arith in
        digits_more d n m ∙ ap (λ (t : List ℕ). t ++ ((48 + n % 10) ∷ [])) (rest m) ∙ sym (digits_more e n m)

pub decimal_one : (n : ℕ) → n < 10 → decimal n ≡ (48 + n) ∷ []
unfolding decimal
decimal_one n h = digits_one n n h

pub decimal_more : (n : ℕ) → 10 ≤ n → decimal n ≡ decimal (n / 10) ++ ((48 + n % 10) ∷ [])
unfolding decimal
decimal_more zero h = absurd (omega arith)
decimal_more (suc d) h =
    digits_more d (suc d) h ∙ ap (λ (t : List ℕ). t ++ ((48 + suc d % 10) ∷ [])) (enough d (suc d / 10) (suc d / 10) (omega arith) (omega arith))

-- ---- how many there are

pub length_one : (n : ℕ) → n < 10 → length (decimal n) ≡ 1
length_one n h = ap length (decimal_one n h)

pub length_more : (n : ℕ) → 10 ≤ n → length (decimal n) ≡ length (decimal (n / 10)) + 1
length_more n h = ap length (decimal_more n h) ∙ length-append (decimal (n / 10)) ((48 + n % 10) ∷ [])

-- a number below 10^(k+1) has at most k + 1 digits
pub decimal_short : (k n : ℕ) → n < 10 ^ suc k → length (decimal n) ≤ suc k
decimal_short zero n h = omega (arith, length_one n h)
decimal_short (suc k) n h = go (dec_lt n 10) (decimal_short k (n / 10) (omega (arith, pow-suc 10 (suc k))))
  where
    go : Dec (n < 10) → length (decimal (n / 10)) ≤ suc k → length (decimal n) ≤ suc (suc k)
    go (yes l) rest = omega (arith, length_one n l)
    go (no l) rest = omega (arith, length_more n (omega arith))

-- and is written by as many steps
pub decimal_steps : (k n : ℕ) → n < 10 ^ suc k → decimal n ≡ decimal_digits k n
decimal_steps zero n h = decimal_one n h ∙ sym (digits_one zero n h)
decimal_steps (suc k) n h = go (dec_lt n 10) (decimal_steps k (n / 10) (omega (arith, pow-suc 10 (suc k))))
  where
    go : Dec (n < 10) → decimal (n / 10) ≡ decimal_digits k (n / 10) → decimal n ≡ decimal_digits (suc k) n
    go (yes l) rest = decimal_one n l ∙ sym (digits_one (suc k) n l)
    go (no l) rest =
        let m : 10 ≤ n = omega arith in
        decimal_more n m ∙ ap (λ (t : List ℕ). t ++ ((48 + n % 10) ∷ [])) rest ∙ sym (digits_more k n m)

pub unsigned_short : (k n : ℕ) → n < 10 ^ suc k → length (signed_decimal (pos n)) ≤ suc k
unfolding signed_decimal
unsigned_short k n h = decimal_short k n h

pub signed_short : (k : ℕ) (z : ℤ) → nat_abs z < 10 ^ suc k → length (signed_decimal z) ≤ suc (suc k)
unfolding signed_decimal
signed_short k (pos n) h = omega (arith, decimal_short k n h)
signed_short k (negsuc n) h = omega (arith, decimal_short k (suc n) h)

pub signed_below : (z : ℤ) → z <ℤ pos 0 → signed_decimal z ≡ 45 ∷ decimal (nat_abs z)
unfolding signed_decimal
signed_below (pos n) h = absurd (omega (arith, ltb→lt n 0 h.lt))
signed_below (negsuc n) h = refl

pub signed_whole : (z : ℤ) → pos 0 ≤ℤ z → signed_decimal z ≡ decimal (nat_abs z)
unfolding signed_decimal
signed_whole (pos n) h = refl
signed_whole (negsuc n) h = absurd h.le

-- ---- the last d digits, with zeros in front

abbrev pub last_digits : ℕ → ℕ → List ℕ
last_digits zero n = []
last_digits (suc d) n = last_digits d (n / 10) ++ ((48 + n % 10) ∷ [])

last_digits_lem : (d n : ℕ) → last_digits (length (decimal_digits d n)) n ≡ decimal_digits d n
unfolding decimal_digits
last_digits_lem zero n = refl
last_digits_lem (suc d) n = go (dec_lt n 10) (last_digits_lem d (n / 10))
  where
    go : Dec (n < 10) → last_digits (length (decimal_digits d (n / 10))) (n / 10) ≡ decimal_digits d (n / 10) → last_digits (length (decimal_digits (suc d) n)) n ≡ decimal_digits (suc d) n
    go (yes l) rest = rw (digits_one (suc d) n l) (ap (λ (m : ℕ). (48 + m) ∷ []) (omega arith))
    go (no l) rest =
        let m : 10 ≤ n = omega arith in
        simp (le-ltb n 10 m)
        (ap (λ (k : ℕ). last_digits k n) (length-append (decimal_digits d (n / 10)) ((48 + n % 10) ∷ []) ∙ add-one (length (decimal_digits d (n / 10))))
        ∙ ap (λ (t : List ℕ). t ++ ((48 + n % 10) ∷ [])) rest)

pub last_all : (n : ℕ) → last_digits (length (decimal n)) n ≡ decimal n
unfolding decimal
last_all n = last_digits_lem n n

-- ---- digits written from the last to the first

-- those from i on are written; left has the others
pub record DigitsFrom (n at : ℕ) (before : List ℕ) (i left : ℕ) (after : List ℕ) : Type 0 where
  pub within : at + i ≤ length before
  pub long : length after ≡ length before
  pub is : take at after ++ last_digits i left ++ drop (at + i) after ≡ take at before ++ decimal n ++ drop (at + length (decimal n)) before

module _ (n at : ℕ) (before : List ℕ) where
  pub digits_none : (i : ℕ) → at + length (decimal n) ≤ length before → i ≡ length (decimal n) → DigitsFrom n at before i n before
  digits_none i h e = record {
    within = omega arith;
    long = refl;
    is = ap (λ (k : ℕ). take at before ++ last_digits k n ++ drop (at + k) before) e ∙ ap (λ (t : List ℕ). take at before ++ t ++ drop (at + length (decimal n)) before) (last_all n);
  }

  pub digits_next : (i j left : ℕ) (after : List ℕ) → i ≡ suc j → DigitsFrom n at before i left after →
      DigitsFrom n at before j (left / 10) (set after (at + j) (48 + left % 10))
  digits_next i j left after e d =
      let x = 48 + left % 10 in
      let front = take at after ++ last_digits j (left / 10) in
      let below : at + j < length after = omega (arith, d.long, d.within) in
      record {
        within = omega (arith, d.within);
        long = length-set after (at + j) x ∙ d.long;
        is =
            ap₂ (λ (l r : List ℕ). l ++ last_digits j (left / 10) ++ r) (take-set-le at after (at + j) x (omega arith))
            (ap (drop (at + j)) (set_split after (at + j) x below) ∙ drop_at (take (at + j) after) _ (at + j) (length-take-le (at + j) after (omega (arith, below))))
            ∙ sym (append_snoc front x (drop (suc (at + j)) after))
            ∙ ap₂ ◌++◌ (append_assoc (take at after) (last_digits j (left / 10)) (x ∷ [])) (same_drop after (suc (at + j)) (at + i) (omega (arith, e)))
            ∙ ap (λ (k : ℕ). take at after ++ last_digits k left ++ drop (at + i) after) (sym e) ∙ d.is;
      }

  pub digits_all : (i left : ℕ) (after : List ℕ) (count : ℕ) → DigitsFrom n at before i left after → i ≡ 0 → count ≡ length (decimal n) →
      TextAt at (decimal n) before (at + count) after
  digits_all i left after count d e k = record {
    end_is = ap (λ (m : ℕ). at + m) k;
    contents =
        (text_none at after).contents ∙ ap (λ (j : ℕ). take at after ++ last_digits j left ++ drop (at + j) after) (sym e) ∙ d.is;
  }

-- ---- what the library prints

library_digits : (d n : ℕ) → n ≤ d → n < 2 ^ 64 → Library.decimal n ≡ decimal_digits d n
library_digits zero n h k = Printed.decimal_digit n (omega arith) ∙ sym (digits_one zero n (omega arith))
library_digits (suc d) n h k = go (dec_lt n 10) (λ l. library_digits d (n / 10) (omega arith) (omega arith))
  where
    go : Dec (n < 10) → (10 ≤ n → Library.decimal (n / 10) ≡ decimal_digits d (n / 10)) → Library.decimal n ≡ decimal_digits (suc d) n
    go (yes l) rest = Printed.decimal_digit n l ∙ sym (digits_one (suc d) n l)
    go (no l) rest =
        let m : 10 ≤ n = omega arith in
        Printed.decimal_step n m k ∙ ap (λ (t : List ℕ). t ++ ((48 + n % 10) ∷ [])) (rest m) ∙ sym (digits_more d n m)

pub digits_printed : (n : ℕ) → n < 2 ^ 64 → Library.decimal n ≡ decimal n
unfolding decimal
digits_printed n h = library_digits n n (omega arith) h

pub printed : (z : ℤ) → nat_abs z < 2 ^ 64 → Library.signed_decimal z ≡ signed_decimal z
unfolding signed_decimal
printed (pos n) h = digits_printed n h
printed (negsuc n) h = ap (λ (t : List ℕ). 45 ∷ t) (digits_printed (suc n) h)
