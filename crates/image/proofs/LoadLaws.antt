-- A saved state loads as it was, and accepted bytes of the current layout are the image of the state that they hold.
use mathlib.Core.Path.{◌≡◌, refl, sym, ap, ap₂, ◌∙◌}
use mathlib.Core.Bool.{Bool, true, false, cond}
use mathlib.Core.List.{List, ◌++◌}
use Prim.Native.Nat.{ℕ, ◌*◌, ◌-◌, ◌≤◌}
use native.Mathlib.Omega.{arith}
use lib.Dec.{leb, eqb}
use lib.ListN.{length, take, drop, replicate, take-append-drop, length-drop}
use lib.Seq.{length-take-le, take_at, drop_at, take_all, take-add, drop-drop}
use lib.IntN.{ℤ, pos}
use mir.Syntax.{Width}
use mir.Val.{SFits}
use borrow.Author.Tests.{le-leb, eq-eqb, eqb-true, eqb-false, leb-true}
use Rattle.laws.specs.Lists.{all}
use Rattle.laws.specs.Sums.{Each, each_append, each_take, each_drop}
use Rattle.words.specs.Words.{Byte, bytes, number_at, width, words, words_of}
use Rattle.words.proofs.ByteLaws.{bytes_each, words_each, byte_below, number_front, bytes_number, take_each, words_long, words_count, words_back, words_forth}
use Rattle.state.specs.Sizes.{sizes_fit}
use Rattle.steps.specs.Limits.{slots}
use Rattle.block.specs.Sound.{Sound}
use Rattle.state.specs.State.{settings, memory, taps, padded, is_zero, refused}
use Rattle.state.specs.Answers.{examined}
use Rattle.image.specs.Layout.{weight_word, datum_word, current, least_header, data_place, end_place, taps_in, layout_of}
use Rattle.image.specs.Image.{header_bytes, image, image_length, save_number, save_length, save_buffer}
use Rattle.image.specs.Load.{weight_bytes, past_bytes, weights_by, state_by, state_in, frame_number, load_number, load_state}
use Rattle.image.specs.declared.layout.Layout.{Layout}
use Rattle.state.specs.declared.equaliser.Equaliser.{Equaliser}
use Rattle.state.proofs.SizesLaws.{step_bits}
use Rattle.state.proofs.SoundLaws.{Accepted, accepted_sound, refused_accepted, examined_tests}
use Rattle.image.proofs.LayoutLaws.{layout_current, only_current}
use Rattle.image.proofs.StateBits.{spare_zero, weights_bits, past_bits}
use Rattle.image.proofs.ImageLaws.{taps_most, header_length, image_length_lem, save_fits}
use Rattle.state.proofs.PaddedLaws.{padded_back, padded_long}

-- ---- the tests of loading

module _ (l : List ℕ) where
  three : (a b c : Bool) → leb least_header (length l) ≡ a → sizes_fit (settings (state_in l)) ≡ b → eqb (length l) (end_place (layout_of l) (taps_in l)) ≡ c →
      frame_number l ≡ 0 → (a ≡ true) × (b ≡ true) × (c ≡ true)
  unfolding frame_number
  three true true true x y z h = (refl, refl, refl)
  three true true false x y z h = absurd (omega (arith, simp (x, y, z) at h))
  three true false true x y z h = absurd (omega (arith, simp (x, y, z) at h))
  three true false false x y z h = absurd (omega (arith, simp (x, y, z) at h))
  three false b c x y z h = absurd (omega (arith, simp x at h))

  pub frame_tests : frame_number l ≡ 0 → (least_header ≤ length l) × (sizes_fit (settings (state_in l)) ≡ true) × (length l ≡ end_place (layout_of l) (taps_in l))
  frame_tests h =
      let s = state_in l in
      let t = three (leb least_header (length l)) (sizes_fit (settings s)) (eqb (length l) (end_place (layout_of l) (taps_in l))) refl refl refl h in
      (leb-true least_header (length l) t.0, t.1, eqb-true (length l) (end_place (layout_of l) (taps_in l)) t.2)

both_zero : (f x : ℕ) (t : Bool) → eqb f 0 ≡ t → cond t x f ≡ 0 → (f ≡ 0) × (x ≡ 0)
both_zero f x true e h = (eqb-true f 0 e, h)
both_zero f x false e h = absurd (eqb-false f 0 e h)

pub load_tests : (l : List ℕ) → load_number l ≡ 0 → (frame_number l ≡ 0) × (examined (state_in l) ≡ 0)
unfolding load_number
load_tests l h = both_zero (frame_number l) (examined (state_in l)) (eqb (frame_number l) 0) refl h

taps_are : (l : List ℕ) → taps (state_in l) ≡ taps_in l
unfolding state_by
taps_are l = refl

framed : (l : List ℕ) (e : Equaliser) → state_in l ≡ e → length l ≡ image_length e → sizes_fit (settings e) ≡ true → frame_number l ≡ 0
unfolding frame_number
framed l e h k f =
    let long : length l ≡ end_place current (taps_in l) = k ∙ ap (end_place current) (sym (ap taps h) ∙ taps_are l) in
    let same : length l ≡ end_place (layout_of l) (taps_in l) = long ∙ ap (λ (y : Layout). end_place y (taps_in l)) (sym (layout_current l long)) in
    simp (le-leb least_header (length l) (omega (arith, k)), ap (λ (x : Equaliser). sizes_fit (settings x)) h ∙ f, eq-eqb (length l) (end_place (layout_of l) (taps_in l)) same)

accepted : (l : List ℕ) (e : Equaliser) → state_in l ≡ e → length l ≡ image_length e → examined e ≡ 0 → load_number l ≡ 0
unfolding load_number
accepted l e h k x = rw (framed l e h k (examined_tests e x).0, h, x)

-- ---- a saved state loads as it was

module _ (e : Equaliser) (a : Accepted e) where
  weights_within : taps e ≤ length e.weights
  weights_within = omega (arith, taps_most e a.number, a.weights_long, a.past_long)

  past_within : taps e ≤ length e.past
  past_within = omega (arith, taps_most e a.number, a.weights_long, a.past_long)

  -- an array from the words of its first slots
  array_in : (w : Width) (l : List ℤ) → length l ≡ slots → Each (SFits w) (take (taps e) l) → all is_zero (drop (taps e) l) ≡ true → padded (words_of w (taps e) (words w (take (taps e) l))) ≡ l
  array_in w l long fit spare =
      ap (λ (n : ℕ). padded (words_of w n (words w (take (taps e) l)))) (sym (length-take-le (taps e) l (omega (arith, taps_most e a.number))))
      ∙ ap padded (words_back w (take (taps e) l) fit)
      ∙ padded_back (taps e) l long (taps_most e a.number) spare

  -- what follows the header
  after_header : drop current.header (image e) ≡ words weight_word (take (taps e) e.weights) ++ words datum_word (take (taps e) e.past)
  unfolding image
  after_header = drop_at (header_bytes e) _ current.header (header_length e)

  weights_in : padded (words_of weight_word (taps e) (take (width weight_word * taps e) (drop current.header (image e)))) ≡ e.weights
  weights_in =
      ap (λ (l : List ℕ). padded (words_of weight_word (taps e) l))
      (ap (take (width weight_word * taps e)) after_header
      ∙ take_at (words weight_word (take (taps e) e.weights)) (words datum_word (take (taps e) e.past)) (width weight_word * taps e) (words_long weight_word (taps e) e.weights weights_within))
      ∙ array_in weight_word e.weights a.weights_long (weights_bits e a) (spare_zero e a.number).0

  past_in : padded (words_of datum_word (taps e) (take (width datum_word * taps e) (drop (data_place current (taps e)) (image e)))) ≡ e.past
  past_in =
      let w = words weight_word (take (taps e) e.weights) in
      let d = words datum_word (take (taps e) e.past) in
      ap (λ (l : List ℕ). padded (words_of datum_word (taps e) (take (width datum_word * taps e) l)))
      (sym (drop-drop (width weight_word * taps e) current.header (image e)) ∙ ap (drop (width weight_word * taps e)) after_header ∙ drop_at w d (width weight_word * taps e) (words_long weight_word (taps e) e.weights weights_within))
      ∙ ap (λ (l : List ℕ). padded (words_of datum_word (taps e) l)) (take_all (width datum_word * taps e) d (omega (arith, words_long datum_word (taps e) e.past past_within)))
      ∙ array_in datum_word e.past a.past_long (past_bits e a) (spare_zero e a.number).1

  step_in : (l : List ℕ) → number_at 4 (bytes 4 e.m ++ l) 0 ≡ e.m
  step_in l = number_front 4 e.m l (step_bits (settings e) (accepted_sound a).admitted)

  state_by_lem : state_by current (image e) ≡ e
  unfolding state_by image
  state_by_lem = λ i. record {
    p = e.p;
    q = e.q;
    n = e.n;
    r = e.r;
    l = e.l;
    psi = e.psi;
    b = e.b;
    bmax = e.bmax;
    m = step_in (words weight_word (take (taps e) e.weights) ++ words datum_word (take (taps e) e.past)) i;
    weights = weights_in i;
    past = past_in i;
  }

  image_long : length (image e) ≡ image_length e
  image_long = image_length_lem e weights_within past_within

  taps_image : taps_in (image e) ≡ taps e
  unfolding image
  taps_image = refl

  -- by its length it has the current layout
  state_in_lem : state_in (image e) ≡ e
  state_in_lem = ap (λ (y : Layout). state_by y (image e)) (layout_current (image e) (image_long ∙ ap (end_place current) (sym taps_image))) ∙ state_by_lem

  pub load_image : (load_number (image e) ≡ 0) × (load_state (image e) ≡ e)
  unfolding load_state
  load_image =
      let n = accepted (image e) e state_in_lem image_long a.number in
      (n, rw n state_in_lem)

  -- what an accepted save leaves: the image, as long as it says, and later bytes as they were
  module _ (buffer : List ℕ) (ok : save_number e buffer ≡ 0) where
    pub saved_front : take (save_length e buffer) (save_buffer e buffer) ≡ image e
    saved_front = rw ok (take_at (image e) (drop (image_length e) buffer) (image_length e) image_long)

    pub saved_rest : drop (save_length e buffer) (save_buffer e buffer) ≡ drop (save_length e buffer) buffer
    saved_rest = rw ok (drop_at (image e) (drop (image_length e) buffer) (image_length e) image_long)

  -- an image is bytes
  header_each : Each Byte (header_bytes e)
  header_each = (p, (q, (n, (r, (l, (psi, (b, (bmax, bytes_each 4 e.m))))))))
    where
      s : Sound (settings e) (memory e)
      s = accepted_sound a

      p : Byte e.p
      p = omega (arith, s.within.p_most)

      q : Byte e.q
      q = omega (arith, s.within.q_most)

      n : Byte e.n
      n = omega (arith, s.within.N_most)

      r : Byte e.r
      r = omega (arith, s.within.r_most)

      l : Byte e.l
      l = omega (arith, s.within.L_most)

      psi : Byte e.psi
      psi = omega (arith, s.ψ_most)

      b : Byte e.b
      b = omega (arith, s.b_most, s.B_most)

      bmax : Byte e.bmax
      bmax = omega (arith, s.B_most)

  pub image_bytes : Each Byte (image e)
  unfolding image
  image_bytes =
      each_append Byte (header_bytes e) (words weight_word (take (taps e) e.weights) ++ words datum_word (take (taps e) e.past)) header_each
      (each_append Byte (words weight_word (take (taps e) e.weights)) (words datum_word (take (taps e) e.past))
      (words_each weight_word (take (taps e) e.weights)) (words_each datum_word (take (taps e) e.past)))

-- ---- accepted bytes hold an accepted state

module _ (y : Layout) (l : List ℕ) where
  few_by : examined (state_by y l) ≡ 0 → taps_in l ≤ slots
  unfolding state_by
  few_by h = taps_most (state_by y l) h

  -- whatever their layout
  by_accepted : examined (state_by y l) ≡ 0 → Accepted (state_by y l)
  unfolding state_by
  by_accepted h = record {
    weights_long = padded_long (weights_by y l) (omega (arith, few_by h, words_count weight_word (taps_in l) (weight_bytes y l)));
    past_long = padded_long (words_of datum_word (taps_in l) (past_bytes y l)) (omega (arith, few_by h, words_count datum_word (taps_in l) (past_bytes y l)));
    number = h;
  }

-- whatever bytes are loaded
pub load_accepted : (l : List ℕ) → Accepted (load_state l)
unfolding load_state
load_accepted l = go (eqb (load_number l) 0) refl
  where
    go : (t : Bool) → eqb (load_number l) 0 ≡ t → Accepted (cond t (state_in l) refused)
    go true e = by_accepted (layout_of l) l (load_tests l (eqb-true (load_number l) 0 e)).1
    go false e = refused_accepted

-- ---- accepted bytes of the current layout are an image

header_in : (l : List ℕ) → current.header ≤ length l → Each Byte l → header_bytes (state_by current l) ≡ take current.header l
unfolding state_by
header_in l h b =
    ap₂ (λ (x y : List ℕ). x ++ y) (sym (take_each 8 0 l (omega arith))) (bytes_number l (byte_below l b) 4 8 (omega arith))
    ∙ sym (take-add 8 4 l)

-- the bytes of n numbers, at the front of the slots
part_in : (w : Width) (n : ℕ) (l : List ℕ) → length l ≡ width w * n → Each Byte l → words w (take n (padded (words_of w n l))) ≡ l
part_in w n l e h = ap (words w) (take_at (words_of w n l) (replicate (slots - length (words_of w n l)) (pos 0)) n (words_count w n l)) ∙ words_forth w n l e h

module _ (l : List ℕ) (b : Each Byte l) (long : length l ≡ end_place current (taps_in l)) where
  weights_size : length (weight_bytes current l) ≡ width weight_word * taps_in l
  weights_size = length-take-le (width weight_word * taps_in l) (drop current.header l) (omega (arith, length-drop current.header l, long))

  past_size : length (past_bytes current l) ≡ width datum_word * taps_in l
  past_size = length-take-le (width datum_word * taps_in l) (drop (data_place current (taps_in l)) l) (omega (arith, length-drop (data_place current (taps_in l)) l, long))

  weights_are : Each Byte (weight_bytes current l)
  weights_are = each_take Byte (width weight_word * taps_in l) (drop current.header l) (each_drop Byte current.header l b)

  past_are : Each Byte (past_bytes current l)
  past_are = each_take Byte (width datum_word * taps_in l) (drop (data_place current (taps_in l)) l) (each_drop Byte (data_place current (taps_in l)) l b)

  -- both parts are all that follows the header
  rest : weight_bytes current l ++ past_bytes current l ≡ drop current.header l
  rest =
      ap (λ (r : List ℕ). weight_bytes current l ++ r)
      (take_all (width datum_word * taps_in l) (drop (data_place current (taps_in l)) l) (omega (arith, length-drop (data_place current (taps_in l)) l, long)) ∙ sym (drop-drop (width weight_word * taps_in l) current.header l))
      ∙ take-append-drop (width weight_word * taps_in l) (drop current.header l)

  image_by : image (state_by current l) ≡ l
  unfolding image state_by
  image_by =
      ap₂ (λ (x y : List ℕ). x ++ y) (header_in l (omega (arith, long)) b)
      (ap₂ (λ (x y : List ℕ). x ++ y) (part_in weight_word (taps_in l) (weight_bytes current l) weights_size weights_are) (part_in datum_word (taps_in l) (past_bytes current l) past_size past_are) ∙ rest)
      ∙ take-append-drop current.header l

  image_current : load_number l ≡ 0 → image (load_state l) ≡ l
  unfolding load_state
  image_current ok = rw ok (ap (λ (y : Layout). image (state_by y l)) (layout_current l long) ∙ image_by)

-- ---- with one layout

-- what is accepted is as long as what is saved
long_current : (l : List ℕ) → load_number l ≡ 0 → length l ≡ end_place current (taps_in l)
long_current l ok = (frame_tests l (load_tests l ok).0).2 ∙ ap (λ (y : Layout). end_place y (taps_in l)) (only_current l)

-- what was loaded saves to the same bytes
pub image_loaded : (l : List ℕ) → Each Byte l → load_number l ≡ 0 → image (load_state l) ≡ l
image_loaded l b ok = image_current l b (long_current l ok) ok

-- to any buffer that is long enough
pub loaded_saved : (l : List ℕ) → Each Byte l → load_number l ≡ 0 → (before : List ℕ) → length l ≤ length before →
    (save_number (load_state l) before ≡ 0) × (save_length (load_state l) before ≡ length l) × (take (save_length (load_state l) before) (save_buffer (load_state l) before) ≡ l)
loaded_saved l b ok before room = (number, rw number long, saved_front (load_state l) a before number ∙ image_loaded l b ok)
  where
    a : Accepted (load_state l)
    a = load_accepted l

    long : image_length (load_state l) ≡ length l
    long = sym (image_long (load_state l) a) ∙ ap length (image_loaded l b ok)

    number : save_number (load_state l) before ≡ 0
    number = save_fits (load_state l) before a.number (omega (arith, long))
