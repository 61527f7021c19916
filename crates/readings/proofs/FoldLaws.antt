-- A fold over two slices of one length that tests every element of both.
use mathlib.Core.Path.{◌≡◌, refl, ◌∙◌}
use mathlib.Core.Bool.{Bool, true, false, ◌&&◌}
use mathlib.Core.List.{List, [], ◌∷◌}
use native.Mathlib.Nat.{suc_inj}
use native.Mathlib.Omega.{arith}
use denote.Param.Members.{Mut}
use denote.Ref.{Bor}
use lib.ListN.{length}
use Rattle.std.proofs.lemmas.Fn.{fronts}
use Rattle.std.proofs.lemmas.Iterator.{YieldsList-from_slice, YieldsList-from_zip, zips}
use Rattle.std.proofs.lemmas.Iterator.Consumers.{fold_from_yields_List}
use Rattle.std.specs.Fn.{Called}
use Rattle.std.specs.Iterator.{Drains}
use Rattle.std.specs.Iterator.Adapters.{zip_first, zip_second}
use Rattle.std.specs.List.{fold, zip, FoldsTo}
use Rattle.std.specs.declared.iter.Zip.{Zip}
use Rattle.std.specs.declared.slice.Iter.{Iter}
use Rattle.std.specs.Slice.Iter.{iter_rest}
use Rattle.laws.specs.Lists.{all}

regrouped : (a b c d : Bool) → ((a && b) && (c && d)) ≡ ((a && c) && (b && d))
regrouped true true c d = refl
regrouped true false true d = refl
regrouped true false false d = refl
regrouped false b c d = refl

module _ {A B : Type 0} (p : A → Bool) (q : B → Bool) where
  abbrev step : Bool → A × B → Bool
  step fit x = (fit && p x.0) && q x.1

  from : (fit : Bool) (xs : List A) (ys : List B) → length ys ≡ length xs → fold step fit (zip xs ys) ≡ (fit && (all p xs && all q ys))
  from true [] [] e = refl
  from false [] [] e = refl
  from fit [] (y ∷ ys) e = absurd (omega arith)
  from fit (x ∷ xs) [] e = absurd (omega arith)
  from true (x ∷ xs) (y ∷ ys) e = from (p x && q y) xs ys (suc_inj e) ∙ regrouped (p x) (q y) (all p xs) (all q ys)
  from false (x ∷ xs) (y ∷ ys) e = from false xs ys (suc_inj e)

  -- by a closure g whose calls test both elements and leave the closure as it was
  pub zip_fold_all : (xs : List A) (ys : List B) {F : Type 0} {s : Zip (Iter A) (Iter B)} (g : Mut F (Bool × ((Bor A × Bor B) × Unit {0})) Bool) {f : F} {r : Bool} →
      ((zs : List (Bor A × Bor B)) × (k : F) × Drains (zips fronts fronts) s zs × FoldsTo {P = F × Bool} (λ a x b. Called g a.0 (a.1, (x, tt)) b.1 b.0) (f, true) zs (k, r)) →
      iter_rest (zip_first s) ≡ xs → iter_rest (zip_second s) ≡ ys → length ys ≡ length xs →
      ((fit : Bool) (x : Bor A × Bor B) (b : Bool) (k : F) → Called g f (fit, (x, tt)) b k → (k ≡ f) × (b ≡ step fit (x.0.now, x.1.now))) → r ≡ (all p xs && all q ys)
  zip_fold_all xs ys g {r = r} ran e k long calls =
      fold_from_yields_List g step true r ran (YieldsList-from_zip (YieldsList-from_slice xs e) (YieldsList-from_slice ys k)) calls ∙ from true xs ys long
