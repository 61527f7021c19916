-- The symbols in a line, and the windows of it.
use mathlib.Core.Path.{◌≡◌, refl, sym, ap, ap₂, ◌∙◌}
use mathlib.Core.Bool.{Bool, true, false, cond}
use mathlib.Core.List.{List, []}
use Prim.Native.Nat.{ℕ, suc, ◌+◌, ◌-◌, ◌≤◌, ◌<◌}
use native.Mathlib.Omega.{arith}
use native.Mathlib.Numerals.{add-one}
use lib.Dec.{leb, ltb}
use lib.ListN.{length, get_or, take, drop, set, length-set, length-take, length-drop, length-replicate, get_or-replicate, get_or-eq_default}
use lib.Seq.{take_all, length-take-le, get_or-take, get_or-drop, get_or-set_same, get_or-set_other, ext_get_or}
use lib.IntN.{ℤ, pos}
use borrow.Author.Tests.{lt-ltb, le-ltb, ltb-true, ltb-false, leb-true, leb-false}
use Rattle.laws.specs.Sums.{Each, each_at, each_of}
use Rattle.laws.specs.Values.{values_length, values_at, values}
use Rattle.cable_trace.specs.Limits.{response_limit}
use Rattle.cable_trace.specs.Calls.{sent_limit, sent_line_length, sent_place, placed, line_of, empty_line, empty_sums, window}
use Rattle.cable_trace.specs.Cable.{sent_before}

-- ---- lists of values

-- one value that is another
set_values : {A : Type 0} (d : A) (f g : ℕ → A) (n j : ℕ) (x : A) → j < n → x ≡ g j → ((i : ℕ) → (i ≡ j → ⊥) → f i ≡ g i) → set (values f n) j x ≡ values g n
set_values d f g n j x h e same =
    ext_get_or d (set (values f n) j x) (values g n) (length-set (values f n) j x ∙ values_length f n ∙ sym (values_length g n))
    (λ i k. let l : i < n = omega (arith, length-set (values f n) j x, values_length f n) in at i l ∙ sym (values_at g d n i l))
  where
    at : (i : ℕ) → i < n → get_or (set (values f n) j x) i d ≡ g i
    at i l = go (ltb i j) (ltb j i) refl refl
      where
        other : (i ≡ j → ⊥) → get_or (set (values f n) j x) i d ≡ g i
        other q = get_or-set_other (values f n) j i x d q ∙ values_at f d n i l ∙ same i q

        go : (a b : Bool) → ltb i j ≡ a → ltb j i ≡ b → get_or (set (values f n) j x) i d ≡ g i
        go true b p q = other (λ z. absurd (omega (arith, ltb-true i j p, z)))
        go false true p q = other (λ z. absurd (omega (arith, ltb-true j i q, z)))
        go false false p q =
            let z : i ≡ j = omega (arith, ltb-false i j p, ltb-false j i q) in
            rw z (get_or-set_same (values f n) j x d (omega (arith, values_length f n)) ∙ e)

-- an element, or the default
pub each_default : (P : ℤ → Type 0) (l : List ℤ) (i : ℕ) → Each P l → P (pos 0) → P (get_or l i (pos 0))
each_default P l i h z = go (ltb i (length l)) refl
  where
    go : (b : Bool) → ltb i (length l) ≡ b → P (get_or l i (pos 0))
    go true e = each_at P l i (pos 0) h (ltb-true i (length l) e)
    go false e = rw (get_or-eq_default l (pos 0) {n = i} (ltb-false i (length l) e)) z

-- ---- the line

take_none : (k n : ℕ) (l : List ℤ) → k ≤ n → get_or (take k l) n (pos 0) ≡ pos 0
take_none k n l h = get_or-eq_default (take k l) (pos 0) {n = n} (omega (arith, length-take k l))

pub empty_line_lem : length empty_line ≡ sent_line_length
unfolding empty_line
empty_line_lem = length-replicate sent_line_length (pos 0)

pub empty_sums_lem : length empty_sums ≡ sent_limit
unfolding empty_sums
empty_sums_lem = length-replicate sent_limit (pos 0)

line_none : empty_line ≡ line_of []
unfolding empty_line
line_none =
    ext_get_or (pos 0) empty_line (line_of []) (empty_line_lem ∙ sym (values_length (placed []) sent_line_length))
    (λ i k. let l : i < sent_line_length = omega (arith, empty_line_lem) in
    get_or-replicate sent_line_length i (pos 0) (pos 0) l ∙ sym (values_at (placed []) (pos 0) sent_line_length i l ∙ nothing i (ltb i sent_limit)))
  where
    nothing : (i : ℕ) (b : Bool) → cond b (get_or [] (sent_place i) (pos 0)) (pos 0) ≡ pos 0
    nothing i true = refl
    nothing i false = refl

-- one symbol more
pub line_next : (l : List ℤ) (i : ℕ) → i < length l → length l ≤ sent_limit → set (line_of (take i l)) (sent_place i) (get_or l i (pos 0)) ≡ line_of (take (suc i) l)
line_next l i h k = set_values (pos 0) (placed (take i l)) (placed (take (suc i) l)) sent_line_length (sent_place i) (get_or l i (pos 0)) (omega arith) new old
  where
    back : sent_place (sent_place i) ≡ i
    back = omega arith

    new : get_or l i (pos 0) ≡ placed (take (suc i) l) (sent_place i)
    new =
        sym (ap (λ (b : Bool). cond b (get_or (take (suc i) l) (sent_place (sent_place i)) (pos 0)) (pos 0)) (lt-ltb (sent_place i) sent_limit (omega arith))
        ∙ ap (λ (n : ℕ). get_or (take (suc i) l) n (pos 0)) back ∙ get_or-take (suc i) l i (pos 0) (omega arith))

    old : (j : ℕ) → (j ≡ sent_place i → ⊥) → placed (take i l) j ≡ placed (take (suc i) l) j
    old j q = go (ltb j sent_limit) refl
      where
        inside : (b : Bool) → ltb (sent_place j) i ≡ b → j < sent_limit → get_or (take i l) (sent_place j) (pos 0) ≡ get_or (take (suc i) l) (sent_place j) (pos 0)
        inside true f s = get_or-take i l (sent_place j) (pos 0) (ltb-true (sent_place j) i f) ∙ sym (get_or-take (suc i) l (sent_place j) (pos 0) (omega (arith, ltb-true (sent_place j) i f)))
        inside false f s = take_none i (sent_place j) l (ltb-false (sent_place j) i f) ∙ sym (take_none (suc i) (sent_place j) l after)
          where
            after : suc i ≤ sent_place j
            after = go (ltb i (sent_place j)) refl
              where
                go : (b : Bool) → ltb i (sent_place j) ≡ b → suc i ≤ sent_place j
                go true t = ltb-true i (sent_place j) t
                go false t = absurd (q (omega (arith, s, ltb-false i (sent_place j) t, ltb-false (sent_place j) i f)))

        go : (b : Bool) → ltb j sent_limit ≡ b → cond b (get_or (take i l) (sent_place j) (pos 0)) (pos 0) ≡ cond b (get_or (take (suc i) l) (sent_place j) (pos 0)) (pos 0)
        go true e = inside (ltb (sent_place j) i) refl (ltb-true j sent_limit e)
        go false e = refl

-- a line that holds the first i symbols
pub record Lined (symbols : List ℤ) (i : ℕ) (line : List ℤ) : Type 0 where
  pub long : length line ≡ sent_line_length
  pub few : length symbols ≤ sent_limit
  pub is : line ≡ line_of (take i symbols)

pub lined_none : (symbols line : List ℤ) → length symbols ≤ sent_limit → line ≡ empty_line → Lined symbols 0 line
lined_none symbols line h e = record { long = ap length e ∙ empty_line_lem; few = h; is = e ∙ line_none }

module _ {symbols : List ℤ} {i : ℕ} {line : List ℤ} (w : Lined symbols i line) where
  pub lined_next : (j : ℕ) (x : ℤ) → i < length symbols → j ≡ sent_place i → x ≡ get_or symbols i (pos 0) → Lined symbols (i + 1) (set line j x)
  lined_next j x h e f = record {
    long = length-set line j x ∙ w.long;
    few = w.few;
    is =
        ap₂ (λ (a : List ℤ) (y : ℤ). set a j y) w.is f ∙ ap (λ (n : ℕ). set (line_of (take i symbols)) n (get_or symbols i (pos 0))) e ∙ line_next symbols i h w.few
        ∙ ap (λ (n : ℕ). line_of (take n symbols)) (sym (add-one i));
  }

  pub lined_all : length symbols ≤ i → line ≡ line_of symbols
  lined_all h = w.is ∙ ap line_of (take_all i symbols h)

pub line_small : (P : ℤ → Type 0) (l : List ℤ) → Each P l → P (pos 0) → Each P (line_of l)
line_small P l h z = each_of P (pos 0) (line_of l) (λ i k. rw (values_at (placed l) (pos 0) sent_line_length i (omega (arith, values_length (placed l) sent_line_length))) (go i (ltb i sent_limit)))
  where
    go : (i : ℕ) (b : Bool) → P (cond b (get_or l (sent_place i) (pos 0)) (pos 0))
    go i true = each_default P l (sent_place i) h z
    go i false = z

-- ---- a window: the symbols that are newest at n

pub window_long : (line : List ℤ) (k n : ℕ) → length line ≡ sent_line_length → k ≤ response_limit → length (window line k n) ≡ k
window_long line k n l h = length-take-le k (drop (sent_place n) line) (omega (arith, length-drop (sent_place n) line))

pub window_is : (l : List ℤ) (k n : ℕ) → k ≤ response_limit → n < sent_limit → window (line_of l) k n ≡ values (sent_before l n) k
window_is l k n h m =
    ext_get_or (pos 0) (window (line_of l) k n) (values (sent_before l n) k) (long ∙ sym (values_length (sent_before l n) k))
    (λ j b. let s : j < k = omega (arith, long) in at j s ∙ sym (values_at (sent_before l n) (pos 0) k j s))
  where
    long : length (window (line_of l) k n) ≡ k
    long = window_long (line_of l) k n (values_length (placed l) sent_line_length) h

    at : (j : ℕ) → j < k → get_or (window (line_of l) k n) j (pos 0) ≡ sent_before l n j
    at j s =
        get_or-take k (drop (sent_place n) (line_of l)) j (pos 0) s ∙ get_or-drop (sent_place n) (line_of l) j (pos 0)
        ∙ values_at (placed l) (pos 0) sent_line_length (sent_place n + j) (omega arith) ∙ go (leb j n) refl
      where
        go : (b : Bool) → leb j n ≡ b → placed l (sent_place n + j) ≡ cond b (get_or l (n - j) (pos 0)) (pos 0)
        go true e =
            let back : sent_place (sent_place n + j) ≡ n - j = omega (arith, leb-true j n e) in
            ap (λ (b : Bool). cond b (get_or l (sent_place (sent_place n + j)) (pos 0)) (pos 0)) (lt-ltb (sent_place n + j) sent_limit (omega (arith, leb-true j n e)))
            ∙ ap (λ (i : ℕ). get_or l i (pos 0)) back
        go false e = ap (λ (b : Bool). cond b (get_or l (sent_place (sent_place n + j)) (pos 0)) (pos 0)) (le-ltb (sent_place n + j) sent_limit (omega (arith, leb-false j n e)))
