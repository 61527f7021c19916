-- Laws of the saved image.
use mathlib.Core.Path.{◌≡◌, refl, sym, ap, ap₂, ◌∙◌}
use mathlib.Core.Bool.{Bool, true, false, cond}
use mathlib.Core.List.{List, ◌++◌, append_assoc, append-nil}
use Prim.Native.Nat.{ℕ, ◌+◌, ◌*◌, ◌-◌, ◌≤◌, ◌<◌}
use native.Mathlib.Omega.{arith}
use lib.Dec.{leb, eqb}
use lib.ListN.{length, take, drop, length-append, length-drop, drop_of_length-le}
use lib.Seq.{sets, sets-eq, length-sets, lt-length-sets}
use borrow.Author.Tests.{le-leb, lt-leb, eq-eqb, ne_eqb, eqb-true, eqb-false}
use borrow.Rule.Slice.PartMut.{put_mid}
use Rattle.laws.specs.Lent.{next_part}
use Rattle.words.specs.Words.{bytes, width, words}
use Rattle.words.proofs.ByteLaws.{bytes_length, words_long}
use Rattle.steps.specs.Limits.{slots}
use Rattle.state.specs.State.{settings, taps}
use Rattle.state.specs.Answers.{examined}
use Rattle.state.specs.Refusal.{number_of}
use Rattle.state.specs.declared.refusal.Refusal.{Refusal}
use Rattle.state.specs.declared.refusal.Refusal.TheVariants.{Buffer}
use Rattle.std.specs.Prelude.{Err}
use Rattle.image.specs.Layout.{weight_word, datum_word, current, data_place, end_place}
use Rattle.image.specs.Image.{header_bytes, image, image_length, save_number, Save}
use Rattle.image.specs.Result.{saved_of}
use Rattle.image.specs.declared.layout.Layout.{Layout}
use Rattle.state.specs.declared.equaliser.Equaliser.{Equaliser}
use Rattle.state.proofs.RefusalLaws.{number_least}
use Rattle.state.proofs.SizesLaws.{fit_within}
use Rattle.state.proofs.SoundLaws.{examined_tests}

-- ---- the header

pub header_length : (e : Equaliser) → length (header_bytes e) ≡ current.header
header_length e = omega (arith, bytes_length 4 e.m)

-- a place of the header while the bytes before it are stored
pub header_room : (e : Equaliser) (out : List ℕ) (k : ℕ) → length out ≡ current.header → k < current.header → k < length (sets out 0 (take k (header_bytes e)))
header_room e out k h b = lt-length-sets out 0 (take k (header_bytes e)) (omega arith)

-- and of M
pub header_long : (e : Equaliser) (out : List ℕ) → length out ≡ current.header → 8 + 4 ≤ length (sets out 0 (take 8 (header_bytes e)))
header_long e out h = omega (arith, length-sets out 0 (take 8 (header_bytes e)))

pub header_put : (e : Equaliser) (out : List ℕ) → length out ≡ current.header → sets out 0 (header_bytes e) ≡ header_bytes e
header_put e out h =
    sets-eq (header_bytes e) out 0 (omega (arith, header_length e)) ∙ ap (λ (r : List ℕ). header_bytes e ++ r) (drop_of_length-le out {i = 0 + length (header_bytes e)} (omega (arith, header_length e))) ∙ append-nil (header_bytes e)

-- its first eight bytes and those of M, each in its part
pub header_parts : (e : Equaliser) (out x y : List ℕ) → length out ≡ current.header → x ≡ take 8 (header_bytes e) → y ≡ bytes 4 e.m →
    put_mid 8 (length (x ++ drop 8 out) - 8) (x ++ drop 8 out) y ≡ header_bytes e
header_parts e out x y h f g =
    ap (λ (n : ℕ). put_mid 8 (n - 8) (x ++ drop 8 out) y) long
    ∙ next_part x y out 8 12 (ap length f) (ap (λ (l : List ℕ). 8 + length l) g ∙ ap (λ (n : ℕ). 8 + n) (bytes_length 4 e.m))
    ∙ ap (λ (r : List ℕ). (x ++ y) ++ r) (drop_of_length-le out {i = 12} (omega arith))
    ∙ append-nil (x ++ y)
    ∙ ap₂ (λ (a b : List ℕ). a ++ b) f g
  where
    long : length (x ++ drop 8 out) ≡ 12
    long = length-append x (drop 8 out) ∙ omega (arith, ap length f, length-drop 8 out)

-- ---- the image

pub image_length_lem : (e : Equaliser) → taps e ≤ length e.weights → taps e ≤ length e.past → length (image e) ≡ image_length e
unfolding image
image_length_lem e w d =
    length-append (header_bytes e) (words weight_word (take (taps e) e.weights) ++ words datum_word (take (taps e) e.past))
    ∙ ap₂ (λ (a b : ℕ). a + b) (header_length e) (length-append (words weight_word (take (taps e) e.weights)) (words datum_word (take (taps e) e.past)))
    ∙ omega (arith, words_long weight_word (taps e) e.weights w, words_long datum_word (taps e) e.past d)

-- the header and both lists of words at the front of a buffer, up to places that were worked out
pub image_put : (e : Equaliser) (before h u v : List ℕ) (start mid end : ℕ) → start ≡ current.header → mid ≡ data_place current (taps e) → end ≡ image_length e →
    taps e ≤ length e.weights → taps e ≤ length e.past → h ≡ header_bytes e → u ≡ words weight_word (take (taps e) e.weights) → v ≡ words datum_word (take (taps e) e.past) →
    put_mid mid (end - mid) (put_mid start (mid - start) (h ++ drop start before) u) v ≡ image e ++ drop (image_length e) before
unfolding image
image_put e before h u v start mid end es em ee w d hs us vs =
    ap (λ (l : List ℕ). put_mid mid (end - mid) l v) (next_part h u before start mid (long_h ∙ sym es) (omega (arith, long_u, es, em)))
    ∙ next_part (h ++ u) v before mid end (length-append h u ∙ omega (arith, long_h, long_u, em)) (omega (arith, long_v, em, ee))
    ∙ ap₂ (λ (l : List ℕ) (n : ℕ). l ++ drop n before) (append_assoc h u v ∙ all_is) ee
  where
    long_h : length h ≡ current.header
    long_h = ap length hs ∙ header_length e

    long_u : length u ≡ width weight_word * taps e
    long_u = ap length us ∙ words_long weight_word (taps e) e.weights w

    long_v : length v ≡ width datum_word * taps e
    long_v = ap length vs ∙ words_long datum_word (taps e) e.past d

    all_is : h ++ (u ++ v) ≡ header_bytes e ++ (words weight_word (take (taps e) e.weights) ++ words datum_word (take (taps e) e.past))
    all_is = ap₂ (λ (a b : List ℕ). a ++ b) hs (ap₂ (λ (a b : List ℕ). a ++ b) us vs)

-- ---- a state that may be saved

pub taps_most : (e : Equaliser) → examined e ≡ 0 → taps e ≤ slots
taps_most e h = let w = fit_within (settings e) (examined_tests e h).0 in omega (arith, w.p_most, w.q_most)

-- what saving answers
module _ (e : Equaliser) (before : List ℕ) where
  -- of an accepted state: 0 or 7
  pub save_number_lem : (P : ℕ → Type 0) → examined e ≡ 0 → P 0 → P 7 → P (save_number e before)
  unfolding save_number
  save_number_lem P h done short = rw h (go (leb (image_length e) (length before)))
    where
      go : (b : Bool) → P (cond b 0 7)
      go true = done
      go false = short

  refused : (n : ℕ) → save_number e before ≡ n → (n ≡ 0 → ⊥) → Save e before (record { number = n; length = 0 }) before
  refused n h k =
      let t = ne_eqb (save_number e before) 0 (λ z. k (sym h ∙ z)) in
      record { number = sym h; saved_length = simp t; contents = simp t }

  pub save_refused : (n : ℕ) → n ≡ examined e → (n ≡ 0 → ⊥) → Save e before (record { number = n; length = 0 }) before
  unfolding save_number
  save_refused n h k = refused n (simp (ne_eqb (examined e) 0 (λ z. k (h ∙ z))) (sym h)) k

  -- by the refusal itself
  pub save_refusal : (x : Refusal) → number_of x ≡ examined e → Save e before (saved_of (Err x)) before
  save_refusal x h = save_refused (number_of x) h (λ z. omega (arith, z, number_least x))

  pub save_short : 0 ≡ examined e → length before < image_length e → Save e before (saved_of (Err Buffer)) before
  unfolding save_number
  save_short h k = refused 7 (simp (eq-eqb (examined e) 0 (sym h), lt-leb (image_length e) (length before) k)) (eqb-false 7 0 refl)

  -- a save that is accepted, and the state that it accepted
  pub save_fits : examined e ≡ 0 → image_length e ≤ length before → save_number e before ≡ 0
  unfolding save_number
  save_fits h k = simp (eq-eqb (examined e) 0 h, le-leb (image_length e) (length before) k)

  pub save_examined : save_number e before ≡ 0 → examined e ≡ 0
  unfolding save_number
  save_examined h = go (eqb (examined e) 0) refl h
    where
      go : (b : Bool) → eqb (examined e) 0 ≡ b → cond b (cond (leb (image_length e) (length before)) 0 7) (examined e) ≡ 0 → examined e ≡ 0
      go true t q = eqb-true (examined e) 0 t
      go false t q = q

  pub save_done : (n : ℕ) (after : List ℕ) → examined e ≡ 0 → image_length e ≤ length before → n ≡ image_length e → after ≡ image e ++ drop (image_length e) before →
      Save e before (record { number = 0; length = n }) after
  save_done n after h k l c =
      let t = save_fits h k in
      record { number = sym t; saved_length = simp t l; contents = simp t c }

  -- the parts in their places
  pub saved_parts : (h u v : List ℕ) (y : Layout) (t mid end : ℕ) → 0 ≡ examined e → length e.weights ≡ slots → length e.past ≡ slots → y ≡ current → t ≡ taps e →
      mid ≡ data_place y t → end ≡ end_place y t → end ≤ length before → h ≡ header_bytes e → u ≡ words weight_word (take t e.weights) → v ≡ words datum_word (take t e.past) →
      Save e before (record { number = 0; length = end }) (put_mid mid (end - mid) (put_mid y.header (mid - y.header) (h ++ drop y.header before) u) v)
  saved_parts h u v y t mid end x w d ye te me ee room hs us vs = save_done end _ (sym x) (omega (arith, end_is)) end_is contents
    where
      end_is : end ≡ image_length e
      end_is = ee ∙ ap₂ end_place ye te

      contents : put_mid mid (end - mid) (put_mid y.header (mid - y.header) (h ++ drop y.header before) u) v ≡ image e ++ drop (image_length e) before
      contents =
          image_put e before h u v y.header mid end (ap (λ (z : Layout). z.header) ye) (me ∙ ap₂ data_place ye te) end_is
          (omega (arith, w, taps_most e (sym x))) (omega (arith, d, taps_most e (sym x))) hs
          (us ∙ ap (λ (n : ℕ). words weight_word (take n e.weights)) te) (vs ∙ ap (λ (n : ℕ). words datum_word (take n e.past)) te)
