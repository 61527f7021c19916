-- The run of a block before its first sample: what the calls ask, and what they promise by the definitions.
use mathlib.Core.Path.{◌≡◌, refl, sym, ap, ap₂, ◌∙◌}
use mathlib.Core.List.{List, [], ◌∷◌, ◌++◌, map, map-append}
use Prim.Native.Nat.{ℕ, zero, suc, ◌+◌, ◌^◌, ◌≤◌, ◌<◌, max}
use native.Mathlib.Omega.{arith}
use lib.ListN.{length, get_or, take, drop, length-append, length-map, replicate}
use lib.IntN.{ℤ, pos}
use Rattle.laws.specs.Sums.{Each, each_append}
use Rattle.numbers.specs.BitLength.{bit_length}
use Rattle.numbers.specs.Cut.{rescale}
use Rattle.numbers.proofs.BitLengthLaws.{bit_length_le}
use Rattle.numbers.proofs.CutLaws.{rescale_zero}
use Rattle.steps.specs.Limits.{tap_limit, block_limit}
use Rattle.steps.specs.Sound.{line_length, Storable, or_all}
use Rattle.steps.specs.Settings.{Settings, scale_forward, scale_back}
use Rattle.steps.specs.Fir.{push, magnitudes}
use Rattle.block.specs.Block.{Block, Memory, Outputs, received_all, stored_all, newb, new_b, Γ, stored, old, start, after}
use Rattle.block.specs.Line.{place, newest, started, added}
use Rattle.block.specs.Calls.{block_length, Startable, BlockExponentsIs, ExponentsOf, FillBounds, filled, SampleLine, Runnable, BegunOn}
use Rattle.filter.specs.declared.sample.BlockExponents.{BlockExponents}
use Rattle.filter.proofs.SampleFirs.{scale_most}
use Rattle.block.proofs.ReceivedLaws.{received_largest_bits}
use Rattle.block.proofs.BlockStored.{receivable, store_bounds, old_storable}
use Rattle.block.proofs.BlockWindow.{after_next}
use Rattle.block.proofs.LineLaws.{started_length, started_old, added_length, added_old, added_at, newest_next}

module _ {k : Settings} {o : Memory} {i : Block} {window₀ : List ℤ} {l : Outputs} (run : Runnable k o i window₀ l) where
  lent_long : length window₀ ≡ k.p
  lent_long =
      ap length run.window_is ∙ length-append o.samples (pos 0 ∷ [])
      ∙ omega (arith, run.sound.samples_long, run.sound.within.p_least)

  pub startable : Startable k o.b i.samples i.gains
  startable = record {
    within = run.sound.within;
    was_most = omega (arith, run.sound.b_most, run.sound.B_most);
    receivable = receivable k o i run.acceptable;
  }

  pub symbols_most : length o.symbols ≤ tap_limit
  symbols_most = omega (arith, run.sound.symbols_long, run.sound.within.q_most)

-- a line before anything stands in it
abbrev pub zeros : List ℤ
zeros = replicate line_length (pos 0)

-- ---- the exponents

pub length_most : {seen b : ℕ} → b ≡ bit_length seen → seen < 2 ^ 64 → b ≤ 64
length_most {seen} e l = omega (arith, e, bit_length_le seen 64 l)

-- of any B up to 64, or up to the previous block's b
pub exponent_most : {k : Settings} {was : ℕ} {m : List ℤ} {gains : List ℕ} → Startable k was m gains → (bmax : ℕ) → bmax ≤ max 64 was → k.r + bmax + scale_forward k < 2 ^ 32
exponent_most {k} h bmax x = omega (arith, x, scale_most k.p h.within.p_most, h.was_most, h.within.r_most)

module _ {k : Settings} {was : ℕ} {m : List ℤ} {gains : List ℕ} (h : Startable k was m gains)
    {seen b bmax : ℕ} (n : seen ≡ or_all (magnitudes (received_all m gains))) (e : b ≡ bit_length seen) (x : bmax ≡ max b was) where
  pub exponents_are : {s sb r : ℕ} → s ≡ scale_forward k → sb ≡ scale_back k → r ≡ k.r → BlockExponentsIs k was m gains (record { s = s; sb = sb; b = b; bmax = bmax; gamma30 = r + bmax + s })
  exponents_are es eb er = record { s = es; sb = eb; b = length_is; bmax = larger; exponent = rw (es, er, larger) }
    where
      length_is : b ≡ block_length m gains
      length_is = e ∙ ap bit_length n ∙ received_largest_bits m gains

      larger : bmax ≡ max (block_length m gains) was
      larger = x ∙ ap (λ (y : ℕ). max y was) length_is

pub exponents_of : {k : Settings} {o : Memory} {i : Block} {e : BlockExponents} → BlockExponentsIs k o.b i.samples i.gains e → ExponentsOf k o i e
unfolding Γ new_b newb
exponents_of p = record { s_is = p.s; sb_is = p.sb; b_is = p.b; bmax_is = p.bmax; Γ_is = p.exponent }

module _ {k : Settings} {o : Memory} {i : Block} {e : BlockExponents} {window₀ : List ℤ} {l : Outputs} (b : ExponentsOf k o i e) (run : Runnable k o i window₀ l) where
  -- the window that was lent may be rescaled
  pub window_storable : Each (Storable o.B e.bmax) window₀
  window_storable =
      rw (run.window_is, b.bmax_is)
      (each_append (Storable o.B (new_b k o i)) o.samples (pos 0 ∷ []) (old_storable k o i run.sound) (
        record {
          shift = omega (arith, run.sound.B_most);
          room = omega arith;
          bound = rw rescale_zero (omega arith);
        },
        tt,
      ))

  module _ {window : List ℤ} (w : window ≡ map (λ (a : ℤ). rescale a o.B e.bmax) window₀) where
    pub window_long : length window ≡ k.p
    window_long = ap length w ∙ length-map window₀ _ ∙ lent_long run

    -- then it has the old samples at the new exponent
    window_rescaled : window ≡ (after k o i 0).samples
    unfolding after start old
    window_rescaled =
        w ∙ rw (run.window_is, b.bmax_is) (
        map-append (λ (a : ℤ). rescale a o.B (new_b k o i)) o.samples (pos 0 ∷ [])
        ∙ ap (λ (z : ℤ). map (λ (a : ℤ). rescale a o.B (new_b k o i)) o.samples ++ (z ∷ [])) (rescale_zero o.B (new_b k o i)))

    pub window_most : length window ≤ tap_limit
    window_most = omega (arith, window_long, run.sound.within.p_most)

    -- the samples may be stored
    pub fill_bounds : {area line : List ℤ} → length area ≡ length i.samples → length line ≡ line_length → FillBounds i.samples i.gains (e.bmax + e.s) window area line
    fill_bounds a h = record {
      bounds = rw (b.bmax_is, b.s_is) (store_bounds k o i run.sound run.acceptable);
      samples_most = omega (arith, run.acceptable.samples_long, run.sound.within.N_most);
      stored_long = a;
      old_most = window_most;
      line_long = h;
    }

    -- then they stand in the line
    module _ (line₀ : List ℤ) {line : List ℤ} (h : length line₀ ≡ line_length)
        (is : line ≡ filled (e.bmax + e.s) i.samples i.gains window line₀) where
      started_long : length (started window line₀) ≡ line_length
      started_long = started_length window line₀ h window_most

      line_long : length line ≡ line_length
      line_long = ap length is ∙ added_length _ _ _ ∙ started_long

      stored_in : (n : ℕ) → n < k.N → get_or line (place n) (pos 0) ≡ get_or (stored k o i) n (pos 0)
      unfolding stored
      stored_in n m =
          ap (λ (t : List ℤ). get_or t (place n) (pos 0)) is
          ∙ added_at _ _ _ started_long (omega (arith, run.acceptable.samples_long, run.sound.within.N_most)) n (omega (arith, run.acceptable.samples_long))
          ∙ ap (λ (m : ℕ). get_or (stored_all m i.samples i.gains) n (pos 0)) (omega (arith, b.bmax_is, b.s_is))

      windows : (n : ℕ) → n ≤ k.N → newest k.p n line ≡ (after k o i n).samples
      windows zero m =
          ap₂ (λ (n : ℕ) (t : List ℤ). take n t) (sym window_long) (ap (drop block_limit) is ∙ added_old _ _ (started window line₀)) ∙ started_old window line₀ h ∙ window_rescaled
      windows (suc n) m =
          newest_next k.p n line line_long (omega (arith, run.sound.within.N_most)) run.sound.within.p_most
          ∙ ap₂ (λ (x : ℤ) (w : List ℤ). push x w) (stored_in n m) (windows n (omega arith)) ∙ sym (after_next k o i n)

      sample_line : SampleLine k o i line
      sample_line = record { long = line_long; windows = windows }

      -- and the symbols in theirs
      pub begun_on : (symbols₀ : List ℤ) {symbols : List ℤ} → length symbols₀ ≡ line_length → symbols ≡ started o.symbols symbols₀ →
          BegunOn k o i e o.ψ i.entries o.forward o.back line symbols l
      unfolding after start
      begun_on symbols₀ {symbols = symbols} f s = record {
        sound = run.sound;
        acceptable = run.acceptable;
        outputs_long = run.outputs_long;
        exponents = b;
        entries_are = refl;
        sample_line = sample_line;
        symbols_long = ap length s ∙ started_length o.symbols symbols₀ f (symbols_most run);
        filter_state_is = rw (windows 0 (omega arith), past);
      }
        where
          past : newest k.q 0 symbols ≡ o.symbols
          past = ap₂ (λ (n : ℕ) (t : List ℤ). take n (drop block_limit t)) (sym run.sound.symbols_long) s ∙ started_old o.symbols symbols₀ f

-- ---- the samples are stored, and stand in the line

pub filled_is : (shift : ℕ) (m : List ℤ) (gains : List ℕ) (old line₀ : List ℤ) {stored between line : List ℤ} → stored ≡ stored_all shift m gains → length stored ≡ length m →
    between ≡ started old line₀ → line ≡ added (length stored) stored between → line ≡ filled shift m gains old line₀
filled_is shift m gains old line₀ s n b e = e ∙ rw (n, s, b)
