-- Laws of the samples as received.
use mathlib.Core.Path.{◌≡◌, refl, sym, ap, ◌∙◌, subst}
use mathlib.Core.List.{List, [], ◌∷◌}
use Prim.Native.Nat.{ℕ, zero, suc, ◌+◌, ◌*◌, ◌-◌, ◌^◌, ◌≤◌, ◌<◌}
use native.Mathlib.Omega.{arith}
use native.Mathlib.Nat.{le_of_suc-le-suc, not-suc-le-zero, mul-le-mul_right}
use native.Mathlib.Decide.{dec_le}
use lib.ListN.{length, get_or, set, length-map}
use lib.IntN.{ℤ, pos, nat_abs}
use lib.Signed.{mag}
use mir.Syntax.{w16, w32}
use mir.Val.{hbits, to_z, of_z}
use Rattle.laws.specs.Lists.{map_at}
use Rattle.laws.specs.Loops.{Written, written_next, written_all}
use Rattle.laws.specs.Machine.{kept}
use Rattle.laws.specs.Powers.{split, rises}
use Rattle.laws.specs.Sums.{Each, each_at}
use Rattle.numbers.specs.BitLength.{bit_length}
use Rattle.numbers.specs.Cut.{rescale}
use Rattle.numbers.proofs.CutLaws.{raise_abs, rescale_up, rescale_shifts}
use Rattle.steps.specs.Fir.{magnitudes}
use Rattle.steps.specs.Sound.{or_all}
use Rattle.steps.proofs.LargestLaws.{or_all_largest_bits, largest_bits_is}
use Rattle.steps.specs.Limits.{data_unit, received_unit, gain_limit, scale_limit, length_limit}
use Rattle.block.specs.Block.{received, received_all, stored_all}
use Rattle.block.specs.Sound.{ShiftBounds, StoreBounds}
use Rattle.block.specs.Calls.{block_length}

-- a sample with a gain of L or more is at most 2^(received_unit − L)
pub received_most : (L g m : ℕ) → L ≤ gain_limit → L ≤ g → m ≤ 2 ^ data_unit → m * 2 ^ (gain_limit - g) ≤ 2 ^ (received_unit - L)
received_most L g m l h b =
    omega (arith, mul-le-mul_right (2 ^ (gain_limit - g)) b, split (data_unit + (gain_limit - g)) data_unit (gain_limit - g) refl, rises {a = data_unit + (gain_limit - g)} {b = received_unit - L} (omega arith))

pub received_each : (L : ℕ) (m : List ℤ) (gains : List ℕ) → L ≤ gain_limit → Each (λ (x : ℤ). nat_abs x ≤ 2 ^ data_unit) m → Each (λ (n : ℕ). L ≤ n) gains →
    Each (λ (x : ℤ). nat_abs x ≤ 2 ^ (received_unit - L)) (received_all m gains)
unfolding received_all
received_each L [] gs l h f = tt
received_each L (m ∷ ms) [] l h f = tt
received_each L (m ∷ ms) (g ∷ gs) l h f = (rw raise_abs (received_most L g (nat_abs m) l f.0 h.0), received_each L ms gs l h.1 f.1)

pub received_length : (m : List ℤ) (gains : List ℕ) → length m ≡ length gains → length (received_all m gains) ≡ length m
unfolding received_all
received_length [] gs e = refl
received_length (m ∷ ms) [] e = absurd (omega arith)
received_length (m ∷ ms) (g ∷ gs) e = ap suc (received_length ms gs (omega arith))

pub received_at : (m : List ℤ) (gains : List ℕ) (i : ℕ) → i < length m → i < length gains →
    get_or (received_all m gains) i (pos 0) ≡ received (get_or m i (pos 0)) (get_or gains i 0)
unfolding received_all
received_at [] gs i h k = absurd (not-suc-le-zero h)
received_at (m ∷ ms) [] i h k = absurd (not-suc-le-zero k)
received_at (m ∷ ms) (g ∷ gs) zero h k = refl
received_at (m ∷ ms) (g ∷ gs) (suc i) h k = received_at ms gs i (le_of_suc-le-suc h) (le_of_suc-le-suc k)

-- of a sample and a gain that are met together
pub received_turn : (m : List ℤ) (gains : List ℕ) (i : ℕ) {x : ℤ} {g : ℕ} → (i < length m) × (i < length gains) × ((d : ℤ) → x ≡ get_or m i d) × ((d : ℕ) → g ≡ get_or gains i d) →
    received x g ≡ get_or (received_all m gains) i (pos 0)
received_turn m gains i t = rw (t.2 (pos 0), t.3 0) (sym (received_at m gains i t.0 t.1))

-- from a register of 16 bits to one of 32
pub received_kept : (x : ℤ) (g : ℕ) {r : ℤ} → mag x < 2 ^ hbits w16 → mag r < 2 ^ hbits w32 → r ≡ received (to_z w16 (of_z w16 x)) g → to_z w32 (of_z w32 r) ≡ received x g
received_kept x g {r = r} h f e = kept w32 r f ∙ e ∙ ap (λ (y : ℤ). received y g) (kept w16 x h)

-- a sample and its gain may be multiplied
pub received_room : {m m' : ℤ} {g g' : ℕ} → m' ≡ m → g' ≡ g → nat_abs m ≤ 2 ^ data_unit → (gain_limit - g' + 1 < 32) × (nat_abs m' * 2 ^ (gain_limit - g') < 2 ^ 31)
received_room {m = m} {g = g} em eg h = rw (em, eg) (omega arith, omega (arith, received_most 0 g (nat_abs m) (omega arith) (omega arith) h))

-- their bits together are as many as the largest has
pub received_largest_bits : (m : List ℤ) (gains : List ℕ) → bit_length (or_all (magnitudes (received_all m gains))) ≡ block_length m gains
received_largest_bits m gains = or_all_largest_bits (received_all m gains) ∙ largest_bits_is (received_all m gains)

-- ---- one shift up and one down

-- of the same number
pub shifted_is : (shift : ℕ) {x y : ℤ} {up down : ℕ} → x ≡ y → up ≡ data_unit - shift → down ≡ shift - data_unit → rescale x up down ≡ rescale y data_unit shift
shifted_is shift {y = y} e u d = rw (e, u, d) (sym (rescale_shifts y data_unit shift))

-- either none up, or the product is the result
pub shift_bounds : (x : ℤ) (shift : ℕ) → shift ≤ length_limit + scale_limit → nat_abs x < 2 ^ 31 → nat_abs (rescale x data_unit shift) < 2 ^ data_unit → ShiftBounds (data_unit - shift) (shift - data_unit) x
shift_bounds x shift m r b = record {
  up_most = omega arith;
  down_most = omega arith;
  room = go (dec_le data_unit shift);
  bound = subst (λ (z : ℤ). nat_abs z < 2 ^ data_unit) (rescale_shifts x data_unit shift) b;
}
  where
    go : Dec (data_unit ≤ shift) → nat_abs x * 2 ^ (data_unit - shift) < 2 ^ 31
    go (yes l) = subst (λ (n : ℕ). nat_abs x * 2 ^ n < 2 ^ 31) {x = 0} (omega arith) (omega arith)
    go (no l) = omega (arith, raise_abs x (data_unit - shift), ap nat_abs (rescale_up x data_unit shift (data_unit - shift) (omega arith)))

-- ---- the samples that a loop stores

module _ {m : List ℤ} {gains : List ℕ} {shift : ℕ} (b : StoreBounds m gains shift) where
  abbrev samples : List ℤ
  samples = received_all m gains

  samples_long : length samples ≡ length m
  samples_long = received_length m gains b.receivable.same_length

  module _ (i : ℕ) (h : i < length m) {x : ℤ} (e : x ≡ received (get_or m i (pos 0)) (get_or gains i 0)) {up down : ℕ} (u : up ≡ data_unit - shift) (d : down ≡ shift - data_unit) where
    at : x ≡ get_or samples i (pos 0)
    at = e ∙ sym (received_at m gains i h (omega (arith, b.receivable.same_length)))

    pub stored_bounds : ShiftBounds up down x
    stored_bounds =
        let f = each_at _ samples i (pos 0) b.fitting (omega (arith, samples_long)) in
        rw (u, d, at) (shift_bounds (get_or samples i (pos 0)) shift b.shift_most f.0 f.1)

    pub stored_next : {old now : List ℤ} → Written (stored_all shift m gains) old i now → length old ≡ length m → {s : ℤ} → s ≡ rescale x up down →
        Written (stored_all shift m gains) old (i + 1) (set now i s)
    stored_next w l r =
        written_next w (pos 0) _ (rw length-map (omega (arith, samples_long))) (omega arith)
        (r ∙ rw (at, u, d) (sym (rescale_shifts (get_or samples i (pos 0)) data_unit shift)) ∙ sym (map_at _ samples i (pos 0) (pos 0) (omega (arith, samples_long))))

  pub stored_done : {old now : List ℤ} {i : ℕ} → Written (stored_all shift m gains) old i now → length old ≡ length m → length m ≤ i → now ≡ stored_all shift m gains
  stored_done w l h = written_all w (length-map samples _ ∙ samples_long ∙ sym l) (omega arith)
