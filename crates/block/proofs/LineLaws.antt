-- Lines.
use mathlib.Core.Path.{◌≡◌, refl, sym, ap, ap₂, ◌∙◌, subst}
use mathlib.Core.List.{List, ◌∷◌, ◌++◌, append_assoc}
use mathlib.Core.Logic.{◌⊎◌, inl, inr}
use Prim.Native.Nat.{ℕ, zero, suc, ◌+◌, ◌-◌, ◌≤◌, ◌<◌}
use native.Mathlib.Omega.{arith}
use native.Mathlib.Nat.{le_antisymm, eq-or-lt_of_le, add-sub_cancel_left}
use native.Mathlib.Numerals.{add-one}
use lib.ListN.{length, get_or, take, drop, set, length-set, length-drop}
use lib.Seq.{length-take-le, length-paste, take-length, take-take, take_at, take-append_seam, drop_at, drop-cons, drop-set-lt, get_or-set_same, get_or-set_other}
use lib.IntN.{ℤ, pos}
use Rattle.steps.specs.Limits.{tap_limit, block_limit}
use Rattle.steps.specs.Sound.{line_length}
use Rattle.steps.specs.Fir.{push}
use Rattle.filter.specs.Calls.{LargestBitsAt}
use Rattle.filter.proofs.DelayLaws.{largest_bits_at_take}
use Rattle.block.specs.Line.{place, newest, started, added}

-- ---- a line that a loop writes: f i when i are written, of n

pub record Placed (f : ℕ → List ℤ) (n i : ℕ) (line : List ℤ) : Type 0 where
  pub long : length line ≡ line_length
  pub within : i ≤ n
  pub is : line ≡ f i

module _ {f : ℕ → List ℤ} {n : ℕ} where
  pub placed_next : {i : ℕ} {line : List ℤ} → Placed f n i line → i < n → (j : ℕ) (x y : ℤ) → x ≡ y → set (f i) j y ≡ f (suc i) → Placed f n (i + 1) (set line j x)
  placed_next {i = i} {line = line} p h j x y e s = rw (add-one i) (record { long = length-set line j x ∙ p.long; within = h; is = ap₂ (λ (t : List ℤ) (z : ℤ). set t j z) p.is e ∙ s })

  pub placed_all : {i : ℕ} {line : List ℤ} → Placed f n i line → n ≤ i → line ≡ f n
  placed_all p h = p.is ∙ ap f (le_antisymm p.within h)

-- ---- the old ones in their places

pub started_length : (old line : List ℤ) → length line ≡ line_length → length old ≤ tap_limit → length (started old line) ≡ line_length
started_length old line l h = length-paste line block_limit old (length old) (omega arith) (omega arith) ∙ l

pub started_old : (old line : List ℤ) → length line ≡ line_length → newest (length old) 0 (started old line) ≡ old
started_old old line l =
    ap (λ (t : List ℤ). take (length old) (drop block_limit t)) (append_assoc (take block_limit line) (take (length old) old) (drop (block_limit + length old) line))
    ∙ ap (take (length old)) (drop_at (take block_limit line) _ block_limit (length-take-le block_limit line (omega arith)))
    ∙ ap (λ (t : List ℤ). take (length old) (t ++ drop (block_limit + length old) line)) (take-length old)
    ∙ take-append_seam old (drop (block_limit + length old) line)

-- ---- the new ones in theirs

pub added_length : (n : ℕ) (new line : List ℤ) → length (added n new line) ≡ length line
unfolding added
added_length zero new line = refl
added_length (suc n) new line = length-set (added n new line) (place n) (get_or new n (pos 0)) ∙ added_length n new line

pub added_old : (n : ℕ) (new line : List ℤ) → drop block_limit (added n new line) ≡ drop block_limit line
unfolding added
added_old zero new line = refl
added_old (suc n) new line = drop-set-lt block_limit (added n new line) (place n) (get_or new n (pos 0)) (omega arith) ∙ added_old n new line

pub added_at : (n : ℕ) (new line : List ℤ) → length line ≡ line_length → n ≤ block_limit → (j : ℕ) → j < n → get_or (added n new line) (place j) (pos 0) ≡ get_or new j (pos 0)
unfolding added
added_at zero new line l h j k = absurd (omega arith)
added_at (suc n) new line l h j k = go (eq-or-lt_of_le {n = j} {m = n} (omega arith)) (λ m. added_at n new line l (omega arith) j m)
  where
    go : (j ≡ n) ⊎ (j < n) → (j < n → get_or (added n new line) (place j) (pos 0) ≡ get_or new j (pos 0)) → get_or (set (added n new line) (place n) (get_or new n (pos 0))) (place j) (pos 0) ≡ get_or new j (pos 0)
    go (inl q) rest = rw q (get_or-set_same (added n new line) (place n) (get_or new n (pos 0)) (pos 0) (omega (arith, l, added_length n new line)))
    go (inr m) rest = get_or-set_other (added n new line) (place n) (place j) (get_or new n (pos 0)) (pos 0) (λ q. absurd (omega arith)) ∙ rest m

pub added_none : (new line : List ℤ) → line ≡ added 0 new line
unfolding added
added_none new line = refl

pub added_next : (n : ℕ) (new line : List ℤ) {now : List ℤ} {x : ℤ} → now ≡ added n new line → x ≡ get_or new n (pos 0) → set now (place n) x ≡ added (n + 1) new line
unfolding added
added_next n new line e q = rw (add-one n, e, q)

-- ---- the newest, when one more is added

push_front : (p : ℕ) (x : ℤ) (l : List ℤ) → p ≤ length l → take p (x ∷ l) ≡ push x (take p l)
push_front p x l h = front p ∙ ap (λ (n : ℕ). take n (x ∷ take p l)) (sym (length-take-le p l h))
  where
    front : (r : ℕ) → take r (x ∷ l) ≡ take r (x ∷ take r l)
    front zero = refl
    front (suc r) = ap (λ (t : List ℤ). x ∷ t) (sym (take-take r (suc r) l (omega arith)))

place_is : (n : ℕ) → n < block_limit → place n ≡ block_limit - suc n
place_is n h = omega arith

behind : (n : ℕ) → n < block_limit → suc (place n) ≡ block_limit - n
behind n h = omega arith

pub newest_next : (p n : ℕ) (line : List ℤ) → length line ≡ line_length → n < block_limit → p ≤ tap_limit → newest p (suc n) line ≡ push (get_or line (place n) (pos 0)) (newest p n line)
newest_next p n line l h k =
    ap (λ (m : ℕ). take p (drop m line)) (sym (place_is n h))
    ∙ ap (take p) (drop-cons line (place n) (pos 0) (omega (arith, l)))
    ∙ ap (λ (m : ℕ). take p (get_or line (place n) (pos 0) ∷ drop m line)) (behind n h)
    ∙ push_front p (get_or line (place n) (pos 0)) (drop (block_limit - n) line) (omega (arith, l, length-drop (block_limit - n) line))

-- a line that was given v before its past
pub newest_given : (q n : ℕ) (line past : List ℤ) (v : ℤ) → newest (suc q) (suc n) line ≡ v ∷ past → length past ≡ q → newest q (suc n) line ≡ push v past
newest_given q n line past v e l =
    sym (take-take q (suc q) (drop (block_limit - suc n) line) (omega arith)) ∙ ap (take q) e ∙ ap (λ (m : ℕ). take m (v ∷ past)) (sym l)

-- the delay of a symbol, when v is given
pub newest_largest_bits_at : (r delay q n : ℕ) (line past : List ℤ) (v : ℤ) → newest (suc q) (suc n) line ≡ v ∷ past → length line ≡ line_length → n < block_limit →
    LargestBitsAt r delay (get_or line (place n) (pos 0) ∷ past) → LargestBitsAt r delay (newest q (suc n) line)
newest_largest_bits_at r delay q n line past v e l h p =
    subst (LargestBitsAt r delay) (take-take q (suc q) (drop (block_limit - suc n) line) (omega arith))
    (largest_bits_at_take r delay q (newest (suc q) (suc n) line) (subst (LargestBitsAt r delay) (ap (λ (x : ℤ). x ∷ past) first ∙ sym e) p))
  where
    first : get_or line (place n) (pos 0) ≡ v
    first =
        sym (ap (λ (t : List ℤ). get_or (take (suc q) t) 0 (pos 0)) (drop-cons line (place n) (pos 0) (omega (arith, l))))
        ∙ ap (λ (a : ℕ). get_or (take (suc q) (drop a line)) 0 (pos 0)) (place_is n h) ∙ ap (λ (t : List ℤ). get_or t 0 (pos 0)) e

-- ---- the parts of a line at sample n

pub window_part : (p n : ℕ) (line : List ℤ) {p' : ℕ} → p' ≡ p → n < block_limit → take (place n + p' - place n) (drop (place n) line) ≡ newest p (suc n) line
window_part p n line e h = ap₂ (λ (m a : ℕ). take m (drop a line)) (add-sub_cancel_left (place n) _ ∙ e) (place_is n h)

pub past_part : (q n : ℕ) (symbols : List ℤ) {q' : ℕ} → q' ≡ q → length symbols ≡ line_length → n < block_limit → drop 1 (take (place n + q' + 1 - place n) (drop (place n) symbols)) ≡ newest q n symbols
past_part q n symbols {q' = q'} e l h =
    ap₂ (λ (m : ℕ) (t : List ℤ). drop 1 (take m t)) apart (drop-cons symbols (place n) (pos 0) (omega (arith, l)))
    ∙ ap (λ (a : ℕ). take q (drop a symbols)) (behind n h)
  where
    apart : place n + q' + 1 - place n ≡ suc q
    apart = omega (arith, e)

-- what is written there
pub written_part : (q n m : ℕ) (symbols new : List ℤ) → length symbols ≡ line_length → n < block_limit → length new ≡ suc q →
    newest (suc q) (suc n) (take (place n) symbols ++ (new ++ drop m (drop (place n) symbols))) ≡ new
written_part q n m symbols new l h e =
    ap (λ (a : ℕ). take (suc q) (drop a (take (place n) symbols ++ (new ++ drop m (drop (place n) symbols))))) (sym (place_is n h))
    ∙ ap (take (suc q)) (drop_at (take (place n) symbols) _ (place n) (length-take-le (place n) symbols (omega (arith, l))))
    ∙ take_at new (drop m (drop (place n) symbols)) (suc q) e
