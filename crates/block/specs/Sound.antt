-- What is sound between blocks, and which blocks are acceptable.
use Rattle.std.specs.Prelude.{◌≡◌, true, ℕ, ◌+◌, ◌*◌, ◌-◌, ◌^◌, ◌≤◌, ◌<◌, List, length, ℤ, nat_abs}
use Rattle.laws.specs.Sums.{Each}
use Rattle.numbers.specs.Cut.{rescale}
use Rattle.steps.specs.Limits.{data_unit, gain_limit, exponent_limit, scale_limit, length_limit}
use Rattle.steps.specs.Settings.{Settings, is_entry, scale_forward}
use Rattle.steps.specs.Sound.{Within, Admitted}
use Rattle.steps.specs.Fir.{Small}
use Rattle.block.specs.Block.{Block, Memory, received_all}

-- the soundness facts between blocks
pub record Sound (k : Settings) (o : Memory) : Type 0 where
  pub within : Within k
  pub admitted : Admitted k
  pub forward_long : length o.forward ≡ k.p
  pub back_long : length o.back ≡ k.q
  pub samples_long : length o.samples ≡ k.p - 1
  pub symbols_long : length o.symbols ≡ k.q
  pub forward_small : Each Small o.forward
  pub back_small : Each Small o.back
  pub samples_small : Each (λ (a : ℤ). nat_abs a * 2 ^ (o.B + scale_forward k) < 2 ^ (data_unit + o.b)) o.samples
  pub symbols_are : Each (λ (v : ℤ). is_entry k.r v ≡ true) o.symbols
  pub ψ_most : o.ψ ≤ exponent_limit
  pub b_most : o.b ≤ o.B
  pub B_most : o.B + k.L ≤ length_limit

-- a block whose lists are N long, whose samples have 16 bits, and whose gains and entries are within limits
pub record Acceptable (k : Settings) (i : Block) : Type 0 where
  pub samples_long : length i.samples ≡ k.N
  pub gains_long : length i.gains ≡ k.N
  pub entries_long : length i.entries ≡ k.N
  pub samples_are : Each (λ (m : ℤ). nat_abs m ≤ 2 ^ data_unit) i.samples
  pub gains_least : Each (λ (g : ℕ). k.L ≤ g) i.gains
  pub gains_most : Each (λ (g : ℕ). g ≤ gain_limit) i.gains
  pub entries_are : Each (λ (e : ℤ). is_entry k.r e ≡ true) i.entries

-- ---- what the loops over a block ask

-- samples with their gains
pub record Receivable (m : List ℤ) (gains : List ℕ) : Type 0 where
  pub same_length : length m ≡ length gains
  pub gains_most : Each (λ (g : ℕ). g ≤ gain_limit) gains

-- a number whose product with 2^up has 32 bits, and whose T(x·2^(up−down)) is a stored sample
pub record ShiftBounds (up down : ℕ) (x : ℤ) : Type 0 where
  pub up_most : up ≤ data_unit
  pub down_most : down ≤ length_limit
  pub room : nat_abs x * 2 ^ up < 2 ^ 31
  pub bound : nat_abs (rescale x up down) < 2 ^ data_unit

-- samples that are stored at B + S = shift
pub record StoreBounds (m : List ℤ) (gains : List ℕ) (shift : ℕ) : Type 0 where
  pub receivable : Receivable m gains
  pub shift_most : shift ≤ length_limit + scale_limit
  pub fitting : Each (λ (x : ℤ). (nat_abs x < 2 ^ 31) × (nat_abs (rescale x data_unit shift) < 2 ^ data_unit)) (received_all m gains)
