-- Laws of the loops over a filter.
use mathlib.Core.Path.{◌≡◌, refl, sym, ap, ap₂, ◌∙◌, fun_ext}
use mathlib.Core.List.{List, [], ◌∷◌, map, map-map, map-id}
use Prim.Native.Nat.{ℕ, zero, suc, ◌+◌, ◌*◌, ◌-◌, ◌^◌, ◌≤◌, ◌<◌}
use native.Mathlib.Omega.{arith}
use native.Mathlib.Nat.{le_of_lt, le_of_suc-le-suc, not-suc-le-zero, lt_of_le_of_lt, lt_of_lt_of_le, mul-le-mul_left, mul-le-mul_right, min-le_right}
use lib.Bits.{bit_or}
use lib.ListN.{length, get_or, take, set, length-take, length-map, get_or-map}
use lib.Seq.{length-take-le, get_or-take}
use lib.IntN.{ℤ, pos, nat_abs, ◌+ℤ◌, ◌*ℤ◌, zero-*ℤ, +ℤ_idr}
use mir.Syntax.{w16, w64}
use mir.Val.{SFits}
use mir.Facts.{sfits_widen}
use Rattle.laws.specs.Integers.{*ℤ_assoc}
use Rattle.laws.specs.Loops.{Written, written_none, written_next, written_all}
use Rattle.laws.specs.Sums.{dot, dot_bound, Each, each_at, each_take, each_weaken}
use Rattle.laws.specs.Powers.{rises}
use Rattle.numbers.specs.Cut.{cut, raise}
use Rattle.numbers.proofs.BitLengthLaws.{bit_length_le}
use Rattle.numbers.proofs.CutLaws.{cut_zero, cut_none, raise_mul, rescale_down}
use Rattle.steps.specs.Limits.{weight_unit, data_unit, output_unit, update_shift, halving_limit, doubling_limit}
use Rattle.steps.specs.Fir.{Small, adapted, adapt, halved, doubled, push, largest, largest_bits, magnitudes}
use Rattle.steps.specs.Sound.{or_all, Summable, Adaptable}
use Rattle.steps.proofs.IncrementLaws.{adapted_fits}
use Rattle.steps.proofs.LargestLaws.{magnitude_at, each_magnitude, largest_bits_above, or_all_largest_bits, Seen, seen_none, seen_next, seen_all}

-- ---- a number of 16 bits in a wider register

pub fits_64 : {z : ℤ} → SFits w16 z → SFits w64 z
fits_64 f = sfits_widen tt f

-- ---- a list that a loop maps in place

module _ (f : ℤ → ℤ) {old now : List ℤ} {i : ℕ} (w : Written (map f old) old i now) where
  pub mapped_next : (x : ℤ) → i < length old → x ≡ f (get_or old i (pos 0)) → Written (map f old) old (i + 1) (set now i x)
  mapped_next x h e = written_next w (f (pos 0)) x (rw length-map h) h (e ∙ sym (get_or-map f old i (pos 0)))

  pub mapped_all : length old ≤ i → now ≡ map f old
  mapped_all h = written_all w (length-map old f) h

-- ---- the sum of the first products

-- each partial sum fits 32 bits
pub sum_bound : (w a : List ℤ) (j : ℕ) → Summable w a → nat_abs (dot (take j w) (take j a)) < 2 ^ 31
sum_bound w a j s =
    omega (
      arith,
      s.bound,
      dot_bound halving_limit (largest (magnitudes a)) (take j w) (take j a) (each_take _ j w small) (each_take _ j a (each_magnitude a)),
      mul-le-mul_right (halving_limit * largest (magnitudes a)) shorter,
    )
  where
    small : Each (λ (x : ℤ). nat_abs x ≤ halving_limit) w
    small = each_weaken Small (λ (x : ℤ). nat_abs x ≤ halving_limit) (λ x l. le_of_lt l) w s.small

    shorter : length (take j w) ≤ length w
    shorter = rw length-take (min-le_right j (length w))

-- ---- the new weights

pub adapt_length : (k : ℤ) (w a : List ℤ) → length (adapt k w a) ≡ length w
unfolding adapt
adapt_length k [] a = refl
adapt_length k (w ∷ ws) [] = refl
adapt_length k (w ∷ ws) (a ∷ b) = ap suc (adapt_length k ws b)

pub adapt_at : (k : ℤ) (w a : List ℤ) (i : ℕ) → i < length w → i < length a → get_or (adapt k w a) i (pos 0) ≡ adapted k (get_or w i (pos 0)) (get_or a i (pos 0))
unfolding adapt
adapt_at k [] a i h g = absurd (not-suc-le-zero h)
adapt_at k (w ∷ ws) [] i h g = absurd (not-suc-le-zero g)
adapt_at k (w ∷ ws) (a ∷ b) zero h g = refl
adapt_at k (w ∷ ws) (a ∷ b) (suc i) h g = adapt_at k ws b i (le_of_suc-le-suc h) (le_of_suc-le-suc g)

-- the first i weights are the new ones, the others are still the old ones, and the bits seen are those of the new ones together
pub record Changing (new old : List ℤ) (i : ℕ) (now : List ℤ) (seen : ℕ) : Type 0 where
  pub written : Written new old i now
  pub bits : Seen new i seen

pub changing_none : (new old : List ℤ) → Changing new old 0 old 0
changing_none new old = record { written = written_none new old; bits = seen_none new }

module _ {new old now : List ℤ} {i seen : ℕ} (c : Changing new old i now seen) where
  pub changing_next : (x : ℤ) (n : ℕ) → length new ≡ length old → i < length old → x ≡ get_or new i (pos 0) → n ≡ nat_abs x → Changing new old (i + 1) (set now i x) (bit_or seen n)
  changing_next x n l h e s = record {
    written = written_next c.written (pos 0) x (omega arith) h e;
    bits = seen_next new i seen n c.bits (s ∙ ap nat_abs e);
  }

  pub changing_all : length new ≡ length old → length old ≤ i → (now ≡ new) × (seen ≡ or_all (magnitudes now))
  changing_all l h =
      let e = written_all c.written l h in
      (e, seen_all new i seen c.bits (omega arith) ∙ ap (λ (w : List ℤ). or_all (magnitudes w)) (sym e))

-- the same of the weights that adapt makes
abbrev pub Adapting : ℤ → List ℤ → List ℤ → ℕ → List ℤ → ℕ → Type 0
Adapting K old a i now seen = Changing (adapt K old a) old i now seen

pub adapting_none : (K : ℤ) (old a : List ℤ) → Adapting K old a 0 old 0
adapting_none K old a = changing_none (adapt K old a) old

module _ (K : ℤ) (a : List ℤ) {old now : List ℤ} {i seen : ℕ} (c : Adapting K old a i now seen) where
  -- one weight more
  pub adapting_next : (x : ℤ) (n : ℕ) → i < length old → i < length a → x ≡ adapted K (get_or old i (pos 0)) (get_or a i (pos 0)) → n ≡ nat_abs x → Adapting K old a (i + 1) (set now i x) (bit_or seen n)
  adapting_next x n h k e f = changing_next c x n (adapt_length K old a) h (e ∙ sym (adapt_at K old a i h k)) f

  pub adapting_all : length old ≤ i → (now ≡ adapt K old a) × (seen ≡ or_all (magnitudes now))
  adapting_all h = changing_all c (adapt_length K old a) h

-- new weights are below 2^weight_unit where the data are at most m
pub adapt_each : (K : ℤ) (m : ℕ) → nat_abs K * m < 2 ^ (output_unit - 1 + data_unit) → (w a : List ℤ) → Each Small w → Each (λ (x : ℤ). nat_abs x ≤ m) a →
    Each (λ (x : ℤ). nat_abs x < 2 ^ weight_unit) (adapt K w a)
unfolding adapt
adapt_each K m b [] a h g = tt
adapt_each K m b (w ∷ ws) [] h g = each_weaken Small (λ (x : ℤ). nat_abs x < 2 ^ weight_unit) (λ x l. omega arith) (w ∷ ws) h
adapt_each K m b (w ∷ ws) (x ∷ a) h g =
    (adapted_fits K w x h.0 (lt_of_le_of_lt (mul-le-mul_left (nat_abs K) g.0) b), adapt_each K m b ws a h.1 g.1)

-- data raised by e bits
pub adapt_raise : (e : ℕ) (k : ℤ) (w a : List ℤ) → adapt k w (map (λ (x : ℤ). raise x e) a) ≡ adapt (raise k e) w a
unfolding adapt
adapt_raise e k [] a = refl
adapt_raise e k (w ∷ ws) [] = refl
adapt_raise e k (w ∷ ws) (a ∷ b) = ap₂ (λ (y : ℤ) (z : List ℤ). y ∷ z) (ap (λ (y : ℤ). w +ℤ cut y update_shift) turned) (adapt_raise e k ws b)
  where
    turned : k *ℤ raise a e ≡ raise k e *ℤ a
    turned = sym (*ℤ_assoc k a (pos (2 ^ e))) ∙ sym (raise_mul k a e)

-- what one weight asks
pub adapt_room : {J : ℤ} {t : ℕ} {w a : List ℤ} → Adaptable J t w a → (i : ℕ) → i < length w →
    (Small (get_or w i (pos 0))) × (nat_abs J * nat_abs (get_or a i (pos 0)) < 2 ^ (output_unit - 1 + t))
adapt_room {J} {t} {w} {a} s i h = (each_at Small w i (pos 0) s.small h, lt_of_le_of_lt (mul-le-mul_left (nat_abs J) (magnitude_at a i)) s.bound)

-- where the factor is 0, no weight gains anything
pub adapt_none : (w a : List ℤ) → adapt (pos 0) w a ≡ w
unfolding adapt
adapt_none [] a = refl
adapt_none (w ∷ ws) [] = refl
adapt_none (w ∷ ws) (a ∷ b) = ap₂ (λ (y : ℤ) (z : List ℤ). y ∷ z) (ap (λ (y : ℤ). w +ℤ cut y update_shift) (zero-*ℤ a) ∙ ap (λ (y : ℤ). w +ℤ y) (cut_zero update_shift) ∙ +ℤ_idr w) (adapt_none ws b)

-- ---- half of each weight, and twice each weight

pub halved_at : (w : List ℤ) (i : ℕ) → get_or (halved w) i (pos 0) ≡ cut (get_or w i (pos 0)) 1
halved_at w i = ap (λ (d : ℤ). get_or (halved w) i d) (sym (cut_zero 1)) ∙ get_or-map (λ (x : ℤ). cut x 1) w i (pos 0)

pub doubled_at : (w : List ℤ) (i : ℕ) → get_or (doubled w) i (pos 0) ≡ raise (get_or w i (pos 0)) 1
doubled_at w i = get_or-map (λ (x : ℤ). raise x 1) w i (pos 0)

-- a doubling loses nothing
pub halved_doubled : (w : List ℤ) → halved (doubled w) ≡ w
halved_doubled w =
    map-map (λ (x : ℤ). cut x 1) (λ (x : ℤ). raise x 1) w ∙ ap (λ (f : ℤ → ℤ). map f w) (fun_ext (λ x. rescale_down x 1 1 0 refl ∙ cut_none x)) ∙ map-id w

-- each number is below a power of two where the bits of all together are
each_below : (k : ℕ) (w : List ℤ) → or_all (magnitudes w) < 2 ^ k → Each (λ (x : ℤ). nat_abs x < 2 ^ k) w
each_below k w h =
    each_weaken (λ (x : ℤ). nat_abs x < 2 ^ largest_bits w) (λ (x : ℤ). nat_abs x < 2 ^ k) (λ x l. lt_of_lt_of_le l (rises most)) w (largest_bits_above w)
  where
    most : largest_bits w ≤ k
    most = rw (← or_all_largest_bits) (bit_length_le (or_all (magnitudes w)) k h)

-- what the doubling asks
pub doublable : (w : List ℤ) → or_all (magnitudes w) < doubling_limit → Each Small w
doublable w h = each_weaken (λ (x : ℤ). nat_abs x < doubling_limit) Small (λ x l. omega arith) w (each_below (weight_unit - 3) w h)

-- ---- a new element in front

pub push_length : (x : ℤ) (xs : List ℤ) → length (push x xs) ≡ length xs
push_length x xs = length-take-le (length xs) (x ∷ xs) (omega arith)

pub push_at : (x : ℤ) (xs : List ℤ) (i : ℕ) → i < length xs → get_or (push x xs) i (pos 0) ≡ get_or (x ∷ xs) i (pos 0)
push_at x xs i h = get_or-take (length xs) (x ∷ xs) i (pos 0) h

pub push_each : (P : ℤ → Type 0) (x : ℤ) (xs : List ℤ) → P x → Each P xs → Each P (push x xs)
push_each P x xs p h = each_take P (length xs) (x ∷ xs) (p, h)
