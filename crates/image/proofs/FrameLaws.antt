-- What the checks of the bytes answer, one after another, and the state in bytes that pass.
use mathlib.Core.Path.{◌≡◌, sym, ap, ◌∙◌}
use mathlib.Core.Bool.{true, false}
use mathlib.Core.List.{List}
use Prim.Native.Nat.{ℕ, ◌+◌, ◌*◌, ◌-◌, ◌≤◌, ◌<◌}
use native.Mathlib.Omega.{arith}
use lib.ListN.{length, take, drop}
use lib.IntN.{ℤ}
use mir.Syntax.{Width}
use borrow.Author.Tests.{lt-leb, le-leb, eq-eqb, ne_eqb}
use Rattle.words.specs.Words.{byte_at, number_at, width, words_of}
use Rattle.steps.specs.Limits.{slots}
use Rattle.steps.specs.Settings.{Settings, given}
use Rattle.state.specs.Sizes.{sizes_fit}
use Rattle.state.specs.State.{settings, padded}
use Rattle.image.specs.Layout.{weight_word, datum_word, least_header, data_place, end_place, taps_in, layout_of}
use Rattle.image.specs.Load.{weights_by, state_by, state_in, frame_number}
use Rattle.image.specs.declared.layout.Layout.{Layout}
use Rattle.state.specs.declared.equaliser.Equaliser.{Equaliser}
use Rattle.state.proofs.SizesLaws.{fit_within}
use Rattle.image.specs.Calls.{Placeable, Weighed}
use Rattle.image.proofs.LayoutLaws.{layout_row, placeable}
use Rattle.image.proofs.LoadLaws.{frame_tests}

-- ---- the number

module _ (l : List ℕ) where
  pub frame_short : length l < least_header → 8 ≡ frame_number l
  unfolding frame_number
  frame_short h = simp (lt-leb least_header (length l) h)

  module _ (h : least_header ≤ length l) where
    pub frame_sizes : sizes_fit (settings (state_in l)) ≡ false → 1 ≡ frame_number l
    unfolding frame_number
    frame_sizes f = rw (le-leb least_header (length l) h, f)

    module _ (f : sizes_fit (settings (state_in l)) ≡ true) where
      pub frame_exact : length l ≡ end_place (layout_of l) (taps_in l) → 0 ≡ frame_number l
      unfolding frame_number
      frame_exact e = rw (le-leb least_header (length l) h, f, eq-eqb (length l) (end_place (layout_of l) (taps_in l)) e)

      pub frame_other : (length l ≡ end_place (layout_of l) (taps_in l) → ⊥) → 8 ≡ frame_number l
      unfolding frame_number
      frame_other e = rw (le-leb least_header (length l) h, f, ne_eqb (length l) (end_place (layout_of l) (taps_in l)) e)

-- ---- the settings

pub settings_made : (l : List ℕ) (m : ℕ) → m ≡ number_at 4 l 8 → given (byte_at l 0) (byte_at l 1) (byte_at l 2) (byte_at l 3) (byte_at l 4) m ≡ settings (state_in l)
unfolding state_by
settings_made l m e = ap (given (byte_at l 0) (byte_at l 1) (byte_at l 2) (byte_at l 3) (byte_at l 4)) e

pub taps_in_lem : (l : List ℕ) (k : Settings) → k ≡ settings (state_in l) → k.p + k.q ≡ taps_in l
unfolding state_by
taps_in_lem l k e = ap (λ (x : Settings). x.p + x.q) e

-- ---- bytes that pass

module _ (l : List ℕ) (h : frame_number l ≡ 0) where
  pub framed_least : least_header ≤ length l
  framed_least = (frame_tests l h).0

  pub framed_long : length l ≡ end_place (layout_of l) (taps_in l)
  framed_long = (frame_tests l h).2

  pub framed_few : taps_in l ≤ slots
  unfolding state_by
  framed_few = let w = fit_within (settings (state_in l)) (frame_tests l h).1 in omega (arith, w.p_most, w.q_most)

-- at once
pub framed_sound : (l : List ℕ) → 0 ≡ frame_number l → (least_header ≤ length l) × (length l ≡ end_place (layout_of l) (taps_in l)) × (taps_in l ≤ slots)
framed_sound l h = let e = sym h in (framed_least l e, framed_long l e, framed_few l e)

-- ---- the places of few taps

module _ (l : List ℕ) where
  pub few_placed : (t : ℕ) → t ≤ slots → Placeable (layout_of l) t
  few_placed t h = placeable (layout_row l) (omega arith)

  pub fit_placed : (k : Settings) → sizes_fit k ≡ true → Placeable (layout_of l) (k.p + k.q)
  fit_placed k f = let w = fit_within k f in few_placed (k.p + k.q) (omega (arith, w.p_most, w.q_most))

  pub weighed : (t : ℕ) → t ≡ taps_in l → length l ≡ end_place (layout_of l) (taps_in l) → t ≤ slots → Weighed (layout_of l) l t
  weighed t e f h = record { row = layout_row l; taps_are = e; few = h; long = rw e (omega (arith, f)) }

-- ---- the state

module _ (l : List ℕ) where
  words_at : (w : Width) (i j k n : ℕ) (x : List ℤ) → j ≡ i + k → x ≡ padded (words_of w n (take (j - i) (drop i l))) → x ≡ padded (words_of w n (take k (drop i l)))
  words_at w i j k n x e g = let f : j - i ≡ k = omega arith in g ∙ ap (λ (a : ℕ). padded (words_of w n (take a (drop i l)))) f

  -- the weights between the header and the place where the data begin
  pub weights_made : (y : Layout) (mid t : ℕ) (x : List ℤ) → mid ≡ data_place y t → t ≡ taps_in l →
      x ≡ padded (words_of weight_word t (take (mid - y.header) (drop y.header l))) → x ≡ padded (weights_by y l)
  weights_made y mid t x a f g =
      words_at weight_word y.header mid (y.weight * t) t x a g ∙ ap (λ (n : ℕ). padded (words_of weight_word n (take (y.weight * n) (drop y.header l)))) f

  -- from its settings, the weights and the data
  abbrev made : Settings → List ℤ → List ℤ → Equaliser
  made k w d = record {
    p = k.p;
    q = k.q;
    n = k.N;
    r = k.r;
    l = k.L;
    psi = byte_at l 5;
    b = byte_at l 6;
    bmax = byte_at l 7;
    m = k.M;
    weights = w;
    past = d;
  }

  -- of any layout: the data lie between the places that were worked out
  pub state_made : (k : Settings) (y : Layout) (t mid end : ℕ) (w d : List ℤ) → k ≡ settings (state_in l) → t ≡ k.p + k.q → mid ≡ data_place y t → end ≡ end_place y t →
      w ≡ padded (weights_by y l) → d ≡ padded (words_of datum_word t (take (end - mid) (drop mid l))) → made k w d ≡ state_by y l
  unfolding state_by
  state_made k y t mid end w d g h a b u v =
      let few : t ≡ taps_in l = h ∙ taps_in_lem l k g in
      let f : end ≡ mid + width datum_word * t = b ∙ ap (λ (i : ℕ). i + width datum_word * t) (sym a) in
      λ i. made (g i) (u i)
      ((words_at datum_word mid end (width datum_word * t) t d f v ∙ ap (λ (j : ℕ). padded (words_of datum_word t (take (width datum_word * t) (drop j l)))) a
      ∙ ap (λ (n : ℕ). padded (words_of datum_word n (take (width datum_word * n) (drop (data_place y n) l)))) few) i)
