-- The bits of a signed number, and lists of numbers as a loop puts them.
use mathlib.Core.Path.{◌≡◌, refl, sym, ap, ap₂, ◌∙◌}
use mathlib.Core.List.{List, [], ◌∷◌, ◌++◌}
use Prim.Native.Nat.{ℕ, suc, ◌+◌, ◌*◌, ◌/◌, ◌%◌, ◌≤◌, ◌<◌}
use native.Mathlib.Omega.{arith}
use native.Mathlib.Nat.{mul-le-mul_left}
use native.Mathlib.Numerals.{add-one}
use lib.Dec.{ltb→lt}
use lib.ListN.{length, get_or, take, set, length-append}
use lib.Seq.{sets, sets-eq, length-sets, length-take-le, take_all, take_at}
use lib.IntN.{ℤ, pos, negsuc, nat_abs, ◌+ℤ◌}
use lib.Signed.{◌≤ℤ◌, ◌<ℤ◌}
use mir.Syntax.{Width, w16}
use mir.Val.{SFits, of_z}
use borrow.Author.Tests.{le-ltb}
use Rattle.words.specs.Words.{bytes, width, words}
use Rattle.words.proofs.ByteLaws.{bytes_length, two_bytes, four_bytes, words_none, words_next}

-- ---- the bits of a signed number

pub bits_negative : (z : ℤ) → z <ℤ pos 0 → SFits w16 z → z +ℤ pos 65536 ≡ pos (of_z w16 z)
bits_negative (pos n) h f = absurd (omega (arith, ltb→lt n 0 h.lt))
bits_negative (negsuc k) h f = simp (le-ltb 65536 (suc k) (omega (arith, f.sfits)))

pub bits_whole : (z : ℤ) → pos 0 ≤ℤ z → nat_abs z ≡ of_z w16 z
bits_whole (pos n) h = refl
bits_whole (negsuc n) h = absurd h.le

-- ---- the stores of a number

module _ (out : List ℕ) (at n : ℕ) where
  pub two_put : set (set out at (n % 256)) (at + 1) (n / 256 % 256) ≡ sets out at (bytes 2 n)
  two_put = rw (add-one at) (ap (sets out at) (sym (two_bytes n)))

  pub four_put : set (set (set (set out at (n % 256)) (at + 1) (n / 256 % 256)) (at + 2) (n / 256 / 256 % 256)) (at + 3) (n / 256 / 256 / 256 % 256) ≡ sets out at (bytes 4 n)
  four_put =
      let one : at + 1 ≡ suc at = omega arith in
      let two : at + 2 ≡ suc (suc at) = omega arith in
      let three : at + 3 ≡ suc (suc (suc at)) = omega arith in
      rw (one, two, three) (ap (sets out at) (sym (four_bytes n)))

-- stores after others
pub sets_append : (l : List ℕ) (i : ℕ) (a b : List ℕ) → sets l i (a ++ b) ≡ sets (sets l i a) (i + length a) b
sets_append l i [] b = ap (λ (j : ℕ). sets l j b) (omega arith)
sets_append l i (x ∷ a) b =
    let e : suc i + length a ≡ i + suc (length a) = omega arith in
    sets_append (set l i x) (suc i) a b ∙ ap (λ (j : ℕ). sets (sets (set l i x) (suc i) a) j b) e

-- ---- numbers of one width

-- the first i numbers are put at the front
pub record Put (w : Width) (src : List ℤ) (i : ℕ) (out : List ℕ) : Type 0 where
  pub within : i ≤ length src
  pub long : length out ≡ width w * length src
  pub front : take (width w * i) out ≡ words w (take i src)

module _ (w : Width) (src : List ℤ) where
  pub put_none : (out : List ℕ) → length out ≡ width w * length src → Put w src 0 out
  put_none out e =
      let z : width w * 0 ≡ 0 = omega arith in
      record { within = omega arith; long = e; front = ap (λ (n : ℕ). take n out) z ∙ sym (words_none w) }

  module _ {i : ℕ} {out : List ℕ} (p : Put w src i out) where
    pub put_next : (n : ℕ) → i < length src → n ≡ of_z w (get_or src i (pos 0)) → Put w src (i + 1) (sets out (width w * i) (bytes (width w) n))
    put_next n h e =
        let k = width w in
        let place = k * i in
        let room : place + k ≤ length out = omega (arith, p.long, more k) in
        let long : length (take place out ++ bytes k n) ≡ k * (i + 1) = length-append (take place out) (bytes k n) ∙ omega (arith, length-take-le place out (omega (arith, room)), bytes_length k n) in
        record {
          within = omega arith;
          long = length-sets out place (bytes k n) ∙ p.long;
          front =
              ap (take (k * (i + 1))) (sets-eq (bytes k n) out place (omega (arith, room, bytes_length k n)))
              ∙ take_at (take place out ++ bytes k n) _ (k * (i + 1)) long
              ∙ ap₂ (λ (f l : List ℕ). f ++ l) p.front (ap (bytes k) e)
              ∙ sym (words_next w src i h);
        }
      where
        more : (k : ℕ) → k * i + k ≤ k * length src
        more k = omega (arith, mul-le-mul_left k h)

    pub put_all : length src ≤ i → out ≡ words w src
    put_all h =
        let e : i ≡ length src = omega (arith, p.within) in
        sym (take_all (width w * i) out (omega (arith, p.long, ap (λ (n : ℕ). width w * n) e))) ∙ p.front ∙ ap (words w) (take_all i src h)
