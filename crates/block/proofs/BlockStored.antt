-- The stored samples of a block are small: those of the block itself, and the old ones at the new exponent.
use mathlib.Core.Path.{◌≡◌, refl, sym, ap, ◌∙◌}
use Prim.Native.Nat.{ℕ, ◌+◌, ◌*◌, ◌-◌, ◌^◌, ◌≤◌, ◌<◌}
use native.Mathlib.Omega.{arith}
use native.Mathlib.Nat.{mul-le-mul_left}
use lib.ListN.{length, get_or, length-map}
use lib.IntN.{ℤ, pos, nat_abs}
use Rattle.laws.specs.Lists.{map_at}
use Rattle.laws.specs.Powers.{split, rises, scale_le, cancel_lt, positive}
use Rattle.laws.specs.Powers as Power
use Rattle.laws.specs.Sums.{Each, each_map, each_weaken}
use Rattle.numbers.specs.Cut.{rescale}
use Rattle.numbers.proofs.CutLaws.{rescale_most}
use Rattle.steps.specs.Limits.{data_unit, length_limit}
use Rattle.steps.specs.Settings.{Settings, scale_forward}
use Rattle.steps.specs.Sound.{Storable}
use Rattle.filter.proofs.SampleFirs.{scale_most}
use Rattle.block.specs.Block.{Block, Memory, received_all, newb, new_b, stored, old}
use Rattle.block.specs.Sound.{Sound, Acceptable, Receivable, StoreBounds}
use Rattle.block.proofs.BlockExponents.{received_below, newb_new_b, oldb_new_b, newb_most, new_b_most}
use Rattle.block.proofs.ReceivedLaws.{received_length}

-- the bound of a stored sample in a sound state with b and B, and at a sample
abbrev pub StateBound : Settings → ℕ → ℕ → ℤ → Type 0
StateBound k b B a = nat_abs a * 2 ^ (B + scale_forward k) < 2 ^ (data_unit + b)

abbrev pub SampleBound : Settings → ℤ → Type 0
SampleBound k a = nat_abs a * 2 ^ scale_forward k < 2 ^ data_unit

-- ---- one sample

-- X below 2^b, stored at B + S
stored_below : (x : ℤ) (b e : ℕ) → nat_abs x < 2 ^ b → nat_abs (rescale x data_unit e) * 2 ^ e < 2 ^ (data_unit + b)
stored_below x b e h = omega (arith, rescale_most x data_unit e, Power.raise (nat_abs x) (data_unit + b) b data_unit (omega arith) h)

-- what obeys the bound of a sound state obeys the bound of a sample, at any exponent from b on
sample_below : (z : ℤ) (b B S : ℕ) → b ≤ B → nat_abs z * 2 ^ (B + S) < 2 ^ (data_unit + b) → nat_abs z * 2 ^ S < 2 ^ data_unit
sample_below z b B S l h =
    cancel_lt B (omega (arith, ap (λ (n : ℕ). nat_abs z * n) (split (B + S) B S refl), split (data_unit + B) data_unit B refl, rises {a = data_unit + b} {b = data_unit + B} (omega arith)))

rescaled_below : (a : ℤ) (i j b S : ℕ) → b ≤ j → nat_abs a * 2 ^ (i + S) < 2 ^ (data_unit + b) → nat_abs (rescale a i j) * 2 ^ S < 2 ^ data_unit
rescaled_below a i j b S l h = sample_below (rescale a i j) b j S l (omega (
  arith,
  scale_le S (rescale_most a i j),
  ap (λ (n : ℕ). nat_abs (rescale a i j) * n) (split (j + S) j S refl),
  ap (λ (n : ℕ). nat_abs a * n) (split (i + S) i S refl),
))

-- without the scale
fits : (a S : ℕ) → a * 2 ^ S < 2 ^ data_unit → a < 2 ^ data_unit
fits a S h = omega (arith, mul-le-mul_left a (positive S))

-- ---- all of them

module _ (k : Settings) (o : Memory) (i : Block) where
  -- each stored sample obeys both
  pub stored_sound : Each (StateBound k (newb k o i) (new_b k o i)) (stored k o i)
  unfolding stored
  stored_sound =
      each_map (λ (x : ℤ). nat_abs x < 2 ^ newb k o i) (StateBound k (newb k o i) (new_b k o i)) _
      (λ x h. stored_below x (newb k o i) (new_b k o i + scale_forward k) h) (received_all i.samples i.gains) (received_below k o i)

  pub stored_small : Each (SampleBound k) (stored k o i)
  stored_small =
      each_weaken (StateBound k (newb k o i) (new_b k o i)) (SampleBound k)
      (λ a h. sample_below a (newb k o i) (new_b k o i) (scale_forward k) (newb_new_b k o i) h) (stored k o i) stored_sound

  -- each old sample at the new exponent
  pub old_small : Sound k o → Each (SampleBound k) (old k o i)
  unfolding old
  old_small s =
      each_map (StateBound k o.b o.B) (SampleBound k) _
      (λ a h. rescaled_below a o.B (new_b k o i) o.b (scale_forward k) (oldb_new_b k o i) h) o.samples s.samples_small

  received_long : Acceptable k i → length (received_all i.samples i.gains) ≡ k.N
  received_long a = received_length i.samples i.gains (a.samples_long ∙ sym a.gains_long) ∙ a.samples_long

  pub stored_length : Acceptable k i → length (stored k o i) ≡ k.N
  unfolding stored
  stored_length a = length-map (received_all i.samples i.gains) _ ∙ received_long a

  pub old_length : length o.samples ≡ k.p - 1 → length (old k o i) ≡ k.p - 1
  unfolding old
  old_length e = length-map o.samples _ ∙ e

  pub stored_at : Acceptable k i → (n : ℕ) → n < k.N →
      get_or (stored k o i) n (pos 0) ≡ rescale (get_or (received_all i.samples i.gains) n (pos 0)) data_unit (new_b k o i + scale_forward k)
  unfolding stored
  stored_at a n h = map_at _ (received_all i.samples i.gains) n (pos 0) (pos 0) (omega (arith, received_long a))

  pub old_at : (j : ℕ) → j < length o.samples → get_or (old k o i) j (pos 0) ≡ rescale (get_or o.samples j (pos 0)) o.B (new_b k o i)
  unfolding old
  old_at j h = map_at _ o.samples j (pos 0) (pos 0) h

  -- ---- what the code asks

  pub receivable : Acceptable k i → Receivable i.samples i.gains
  receivable a = record { same_length = a.samples_long ∙ sym a.gains_long; gains_most = a.gains_most }

  pub store_bounds : Sound k o → Acceptable k i → StoreBounds i.samples i.gains (new_b k o i + scale_forward k)
  store_bounds s a = record {
    receivable = receivable a;
    shift_most = omega (arith, new_b_most k o i s a, scale_most k.p s.within.p_most);
    fitting = each_weaken (λ (x : ℤ). nat_abs x < 2 ^ newb k o i) _ fitting (received_all i.samples i.gains) (received_below k o i);
  }
    where
      fitting : (x : ℤ) → nat_abs x < 2 ^ newb k o i → (nat_abs x < 2 ^ 31) × (nat_abs (rescale x data_unit (new_b k o i + scale_forward k)) < 2 ^ data_unit)
      fitting x h =
          let A = rescale x data_unit (new_b k o i + scale_forward k) in (
            omega (arith, rises {a = newb k o i} {b = length_limit} (omega (arith, newb_most k o i s.within.L_most a))),
            fits (nat_abs A) (scale_forward k)
                (sample_below A (newb k o i) (new_b k o i) (scale_forward k) (newb_new_b k o i) (stored_below x (newb k o i) (new_b k o i + scale_forward k) h)),
          )

  pub old_storable : Sound k o → Each (Storable o.B (new_b k o i)) o.samples
  old_storable s =
      each_weaken (StateBound k o.b o.B) (Storable o.B (new_b k o i)) storable o.samples s.samples_small
    where
      storable : (a : ℤ) → StateBound k o.b o.B a → Storable o.B (new_b k o i) a
      storable a h = record {
        shift = omega (arith, s.B_most);
        room = omega (
          arith,
          mul-le-mul_left (nat_abs a) (rises {a = o.B} {b = o.B + scale_forward k} (omega arith)),
          rises {a = data_unit + o.b} {b = data_unit + length_limit} (omega (arith, s.b_most, s.B_most)),
        );
        bound = fits (nat_abs (rescale a o.B (new_b k o i))) (scale_forward k)
            (rescaled_below a o.B (new_b k o i) o.b (scale_forward k) (oldb_new_b k o i) h);
      }
