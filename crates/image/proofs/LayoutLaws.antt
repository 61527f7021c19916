-- The layouts row by row, and the one that a length tells.
use mathlib.Core.Path.{◌≡◌, refl, sym, subst}
use mathlib.Core.Bool.{Bool, true, false, cond, ◌&&◌}
use mathlib.Core.List.{List, [], ◌∷◌}
use Prim.Native.Nat.{ℕ, ◌*◌, ◌≤◌}
use native.Mathlib.Omega.{arith}
use native.Mathlib.Nat.{mul-le-mul}
use lib.Dec.{leb, eqb}
use lib.ListN.{length}
use borrow.Author.Tests.{eq-eqb, eqb-true, leb-true}
use Rattle.laws.specs.Lists.{all, and_left, and_right}
use Rattle.words.specs.Words.{width}
use Rattle.image.specs.Layout.{weight_word, current, layouts, end_place, taps_in, layout_for, layout_of}
use Rattle.image.specs.Calls.{Placeable, Row}
use Rattle.image.specs.declared.layout.Layout.{Layout}

-- ---- every row

abbrev is_row : Layout → Bool
is_row y = leb y.header 16 && eqb y.weight (width weight_word)

rows : all is_row layouts ≡ true
rows = refl

tested : (y : Layout) → is_row y ≡ true → Row y
tested y h =
    let header = leb y.header 16 in
    let weight = eqb y.weight (width weight_word) in
    record { header_most = leb-true y.header 16 (and_left header weight h); weight_is = eqb-true y.weight (width weight_word) (and_right header weight h) }

either : (b : Bool) (x y : Layout) → Row x → Row y → Row (cond b x y)
either true x y h k = h
either false x y h k = k

found : (ys : List Layout) (t n : ℕ) → all is_row ys ≡ true → Row (layout_for ys t n)
unfolding layout_for
found [] t n h = tested current refl
found (y ∷ ys) t n h = either (eqb n (end_place y t)) y (layout_for ys t n) (tested y (and_left (is_row y) (all is_row ys) h)) (found ys t n (and_right (is_row y) (all is_row ys) h))

-- the row that a length tells, the current one if none has it
pub layout_row : (l : List ℕ) → Row (layout_of l)
layout_row l = found layouts (taps_in l) (length l) rows

pub current_row : (y : Layout) → y ≡ current → Row y
current_row y e = subst Row (sym e) (tested current refl)

-- ---- places

pub placeable : {y : Layout} {t : ℕ} → Row y → t ≤ 510 → Placeable y t
placeable w h = record { header_most = w.header_most; weight_most = omega (arith, w.weight_is); taps_most = h }

pub placed_few : {y : Layout} {t : ℕ} → Placeable y t → y.weight * t ≤ 4 * 510
placed_few p = mul-le-mul p.weight_most p.taps_most

-- ---- the current layout

-- it is found first: bytes as long as what is saved have it
pub layout_current : (l : List ℕ) → length l ≡ end_place current (taps_in l) → layout_of l ≡ current
unfolding layout_for
layout_current l h = rw (eq-eqb (length l) (end_place current (taps_in l)) h)

-- With one row every accepted image has the current layout. Request 2026-07 gives a second row, and then this is false:
-- `image-loaded` and `loaded-saved` get the length of a saved image as their condition, and `layout_of` a test.
pub only_current : (l : List ℕ) → layout_of l ≡ current
unfolding layout_for
only_current l = go (eqb (length l) (end_place current (taps_in l)))
  where
    go : (b : Bool) → cond b current current ≡ current
    go true = refl
    go false = refl
