-- The state that holds given settings and a memory: its parts are those of the memory, and it is accepted where they are sound.
use mathlib.Core.Path.{◌≡◌, refl, sym, ap, ◌∙◌}
use mathlib.Core.Bool.{true}
use mathlib.Core.List.{List, [], ◌∷◌, ◌++◌, append_assoc}
use Prim.Native.Nat.{ℕ, ◌+◌, ◌*◌, ◌-◌, ◌^◌}
use native.Mathlib.Omega.{arith}
use lib.ListN.{length, get_or, take, drop, length-append}
use lib.Seq.{take_at, drop_at, get_or_at, append_snoc}
use lib.IntN.{ℤ, pos, nat_abs}
use borrow.Author.Tests.{le-leb, lt-ltb}
use Rattle.laws.specs.Lists.{all}
use Rattle.laws.specs.Tests.{both, tested_each, all_replicate}
use Rattle.laws.specs.Sums.{each_append}
use Rattle.steps.specs.Limits.{data_unit, exponent_limit, halving_limit, length_limit, slots}
use Rattle.steps.specs.Settings.{Settings, scale_forward, is_entry}
use Rattle.steps.specs.Fir.{Small, all_small, is_below}
use Rattle.block.specs.Block.{Memory}
use Rattle.block.specs.Sound.{Sound}
use Rattle.state.specs.Sizes.{sizes_fit, admits}
use Rattle.state.specs.State.{settings, memory, is_zero, is_stored, sound_exponents, sound_weights, sound_past, is_sound, padded, state_of}
use Rattle.state.proofs.PaddedLaws.{padded_long}
use Rattle.state.proofs.SoundLaws.{tests_examined, Accepted}

-- ---- parts of a padded list

-- two lists, and zeros
module _ (a b : List ℤ) where
  ahead : (n : ℕ) → length a ≡ n → take n (padded (a ++ b)) ≡ a
  ahead n e = ap (take n) (append_assoc a b _) ∙ take_at a _ n e

  behind : (n m : ℕ) → length a ≡ n → length b ≡ m → take m (drop n (padded (a ++ b))) ≡ b
  behind n m e f = ap (λ (l : List ℤ). take m (drop n l)) (append_assoc a b _) ∙ ap (take m) (drop_at a _ n e) ∙ take_at b _ m f

-- one list, and zeros
whole : (l : List ℤ) (n : ℕ) → length l ≡ n → take n (padded l) ≡ l
whole l n e = take_at l _ n e

spare : (l : List ℤ) (n : ℕ) → length l ≡ n → all is_zero (drop n (padded l)) ≡ true
spare l n e = ap (all is_zero) (drop_at l _ n e) ∙ all_replicate is_zero (slots - length l) (pos 0) refl

pub settings_is : (k : Settings) (o : Memory) → settings (state_of k o) ≡ k
unfolding state_of
settings_is k o = refl

module _ (k : Settings) (o : Memory) (s : Sound k o) where
  abbrev weights : List ℤ
  weights = o.forward ++ o.back

  abbrev past : List ℤ
  past = o.samples ++ pos 0 ∷ o.symbols

  weights_size : length weights ≡ k.p + k.q
  weights_size = length-append o.forward o.back ∙ omega (arith, s.forward_long, s.back_long)

  past_size : length past ≡ k.p + k.q
  past_size = length-append o.samples (pos 0 ∷ o.symbols) ∙ omega (arith, s.samples_long, s.symbols_long, s.within.p_least)

  -- the samples with the filler, then the symbols
  turned : (o.samples ++ pos 0 ∷ []) ++ o.symbols ≡ past
  turned = append_snoc o.samples (pos 0) o.symbols

  window_size : length (o.samples ++ pos 0 ∷ []) ≡ k.p
  window_size = length-append o.samples (pos 0 ∷ []) ∙ omega (arith, s.samples_long, s.within.p_least)

  samples_are : take (k.p - 1) (padded past) ≡ o.samples
  samples_are = ahead o.samples (pos 0 ∷ o.symbols) (k.p - 1) s.samples_long

  filler_is : get_or (padded past) (k.p - 1) (pos 0) ≡ pos 0
  filler_is = ap (λ (l : List ℤ). get_or l (k.p - 1) (pos 0)) (append_assoc o.samples (pos 0 ∷ o.symbols) _) ∙ get_or_at o.samples (pos 0) _ (pos 0) (k.p - 1) s.samples_long

  symbols_are : take k.q (drop k.p (padded past)) ≡ o.symbols
  symbols_are =
      ap (λ (l : List ℤ). take k.q (drop k.p (padded l))) (sym turned)
      ∙ behind (o.samples ++ pos 0 ∷ []) o.symbols k.p k.q window_size s.symbols_long

  -- the memory of the state is the memory that it was made from
  pub memory_is : memory (state_of k o) ≡ o
  unfolding state_of
  memory_is = rw (ahead o.forward o.back k.p s.forward_long, behind o.forward o.back k.p k.q s.forward_long s.back_long, samples_are, symbols_are)

  -- ---- soundness

  exponents_pass : sound_exponents (state_of k o) ≡ true
  unfolding state_of
  exponents_pass = both _ _ (both _ _ (le-leb o.ψ exponent_limit s.ψ_most) (le-leb o.b o.B s.b_most)) (le-leb (o.B + k.L) length_limit s.B_most)

  weights_pass : sound_weights (state_of k o) ≡ true
  unfolding state_of
  weights_pass =
      both _ _ (ap all_small (whole weights (k.p + k.q) weights_size) ∙ small) (spare weights (k.p + k.q) weights_size)
    where
      small : all_small weights ≡ true
      small = tested_each (is_below halving_limit) Small (λ w h. lt-ltb (nat_abs w) halving_limit h) weights (each_append Small o.forward o.back s.forward_small s.back_small)

  past_pass : sound_past (state_of k o) ≡ true
  unfolding state_of
  past_pass =
      both _ _ (both _ _ (both _ _ (ap (all (is_stored (scale_forward k) o.b o.B)) samples_are ∙ stored) (ap is_zero filler_is)) (ap (all (is_entry k.r)) symbols_are ∙ entries))
      (spare past (k.p + k.q) past_size)
    where
      stored : all (is_stored (scale_forward k) o.b o.B) o.samples ≡ true
      stored = tested_each _ _ (λ a h. lt-ltb (nat_abs a * 2 ^ (o.B + scale_forward k)) (2 ^ (data_unit + o.b)) h) o.samples s.samples_small

      entries : all (is_entry k.r) o.symbols ≡ true
      entries = tested_each _ _ (λ v h. h) o.symbols s.symbols_are

  kept_sound : is_sound (state_of k o) ≡ true
  unfolding is_sound
  kept_sound = both _ _ (both _ _ exponents_pass weights_pass) past_pass

  pub kept_accepted : sizes_fit k ≡ true → admits k ≡ true → Accepted (state_of k o)
  unfolding state_of
  kept_accepted f a = record {
    weights_long = padded_long weights (omega (arith, weights_size, s.within.p_most, s.within.q_most));
    past_long = padded_long past (omega (arith, past_size, s.within.p_most, s.within.q_most));
    number = tests_examined (state_of k o) f a kept_sound;
  }
