-- A list of which parts were lent and written, one after another.
use Rattle.std.specs.Prelude.{◌≡◌, List, ◌++◌, ℕ, ◌+◌, ◌-◌, ◌≤◌, length, take, drop}
use Rattle.std.proofs.Common.{sym, ap, ap₂, ◌∙◌, append_assoc, append-nil, arith, length-append, take-append-drop, drop_of_length-le, length-take-le, take_at, drop_at}
use Rattle.std.proofs.Math.Seq.{take-append-add}
use borrow.Rule.Slice.PartMut.{put_mid, Post-is}

module _ {A : Type 0} where
  -- the part from a to e, where all before it was written
  pub next_part : (p ys xs : List A) (a e : ℕ) → length p ≡ a → a + length ys ≡ e → put_mid a (e - a) (p ++ drop a xs) ys ≡ (p ++ ys) ++ drop e xs
  next_part p ys xs a e h k =
      ap₂ (λ l r. l ++ (ys ++ r)) (take_at p (drop a xs) a h)
      (ap (λ r. drop (e - a) r) (drop_at p (drop a xs) a h) ∙ Post-is a e xs (omega arith))
      ∙ sym (append_assoc p ys (drop e xs))

  -- a front, and after it a part over the end of which another is written
  pub parts_put : (before h u v : List A) (a b e : ℕ) → length h ≡ a → a + length u ≡ e → a ≤ b → b + length v ≡ e → length before ≤ e →
      put_mid b (e - b) (put_mid a (e - a) (h ++ drop a before) u) v ≡ h ++ (take (b - a) u ++ v)
  parts_put before h u v a b e long_h long_u l long_v short =
      ap (λ (x : List A). put_mid b (e - b) x v) (next_part h u before a e long_h long_u ∙ none (h ++ u) before short ∙ sym kept)
      ∙ next_part p v (h ++ u) b e (ap length front ∙ length-take-le b (h ++ u) (omega (arith, whole, long_v))) long_v
      ∙ none (p ++ v) (h ++ u) (omega (arith, whole)) ∙ append_assoc h (take (b - a) u) v
    where
      p : List A
      p = h ++ take (b - a) u

      whole : length (h ++ u) ≡ e
      whole = length-append h u ∙ omega (arith, long_h, long_u)

      none : (x y : List A) → length y ≤ e → x ++ drop e y ≡ x
      none x y k = ap (λ (z : List A). x ++ z) (drop_of_length-le y k) ∙ append-nil x

      front : p ≡ take b (h ++ u)
      front =
          let m : length h + (b - a) ≡ b = omega (arith, long_h, l) in
          sym (take-append-add h u (b - a)) ∙ ap (λ (n : ℕ). take n (h ++ u)) m

      kept : p ++ drop b (h ++ u) ≡ h ++ u
      kept = ap (λ (x : List A). x ++ drop b (h ++ u)) front ∙ take-append-drop b (h ++ u)
