-- Lists that are copied to the front of an array that is filled with one value.
use mathlib.Core.Path.{◌≡◌, refl, ap, ◌∙◌}
use mathlib.Core.List.{List, ◌++◌, append_assoc}
use Prim.Native.Nat.{ℕ, ◌+◌, ◌-◌, ◌≤◌, ◌<◌}
use native.Mathlib.Omega.{arith}
use native.Mathlib.Nat.{add-sub_cancel_left, sub-add-eq}
use lib.ListN.{length, get_or, drop, set, replicate, length-append, length-replicate}
use lib.Seq.{take-append_seam, drop-append_seam}
use borrow.Rule.Slice.PartMut.{put_mid}
use Rattle.std.proofs.lemmas.List.{drop-replicate}
use Rattle.laws.specs.Loops.{Written, written_next}

-- one element more
pub copied_next : {A : Type 0} {src dst₀ dst : List A} {i : ℕ} → Written src dst₀ i dst → (d : A) → length src ≡ length dst₀ → i < length src →
    {x : A} → x ≡ get_or src i d → Written src dst₀ (i + 1) (set dst i x)
copied_next w d h l e = written_next w d _ l (omega arith) e

module _ {A : Type 0} (m : ℕ) (x : A) where
  -- one list
  pub fronted_is : (src put : List A) → put ≡ src → put ++ drop (length src) (replicate m x) ≡ src ++ replicate (m - length src) x
  fronted_is src put e = rw (e, drop-replicate) refl

  pub fronted_long : (src put : List A) → put ≡ src → length src ≤ m → length (put ++ drop (length src) (replicate m x)) ≡ m
  fronted_long src put e h =
      ap length (fronted_is src put e) ∙ length-append src (replicate (m - length src) x) ∙ omega (arith, length-replicate (m - length src) x)

  -- two lists, one after the other
  pub joined_is : (a b put then : List A) → put ≡ a → then ≡ b →
      put_mid (length a) (length a + length b - length a) (put ++ drop (length a) (replicate m x)) then ≡ (a ++ b) ++ replicate (m - length (a ++ b)) x
  joined_is a b put then e f = rw (
    fronted_is a put e,
    f,
    take-append_seam,
    drop-append_seam,
    add-sub_cancel_left,
    length-append,
    drop-replicate (length b) (m - length a) x,
    sub-add-eq,
    append_assoc,
  ) refl
