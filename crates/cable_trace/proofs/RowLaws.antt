-- Sums over rows: a response twice, and the windows of a line.
use mathlib.Core.Path.{◌≡◌, sym, ap, ap₂, ◌∙◌}
use mathlib.Core.List.{List}
use Prim.Native.Nat.{ℕ, zero, suc, ◌+◌, ◌*◌, ◌-◌, ◌%◌, ◌^◌, ◌≤◌, ◌<◌}
use native.Mathlib.Omega.{arith}
use lib.ListN.{length, get_or, take, drop, length-take, length-drop, get_or-eq_default}
use lib.Seq.{take_all, take-take, length-take-le, get_or-take, get_or-drop, ext_get_or}
use lib.IntN.{ℤ, pos, nat_abs, ◌+ℤ◌, ◌*ℤ◌, zero-*ℤ, +ℤ_idr}
use Rattle.laws.specs.Sums.{each_of, each_take, each_drop, dot, dot_next, dot_bound}
use Rattle.laws.specs.Values.{values_length, values_at, values_same}
use Rattle.cable_trace.specs.Limits.{response_limit}
use Rattle.cable_trace.specs.Calls.{taps_length, sent_place, window, sums, LineSummable, twice, row, row_sums, RowsSummable, RowSummable}
use Rattle.cable_trace.proofs.LineLaws.{each_default, window_long}

-- ---- one sum

-- each partial sum is below 2^25
pub sum_bound : (h v : List ℤ) (j : ℕ) → RowSummable h v → nat_abs (dot (take j h) (take j v)) < 2 ^ 25
sum_bound h v j s =
    omega (arith, dot_bound (2 ^ 15) (2 ^ 4) (take j h) (take j v) (each_take _ j h s.h_small) (each_take _ j v s.v_small), length-take j h, s.h_long)

-- a row and a window
pub row_summable : (taps line : List ℤ) (m n : ℕ) → RowsSummable taps line m → RowSummable (row taps n) (window line response_limit n)
row_summable taps line m n s = record {
  h_long = length-take-le response_limit (drop (response_limit * (n % 2)) taps) (omega (arith, length-drop (response_limit * (n % 2)) taps, s.taps_long));
  v_long = window_long line response_limit n s.line_long (omega arith);
  h_small = each_take _ response_limit (drop (response_limit * (n % 2)) taps) (each_drop _ (response_limit * (n % 2)) taps s.taps_small);
  v_small = each_take _ response_limit (drop (sent_place n) line) (each_drop _ (sent_place n) line s.line_small);
}

-- ---- a row of a response

module _ (h : List ℤ) where
  pub twice_long : length (twice h) ≡ taps_length
  twice_long = values_length (λ i. get_or h (i % response_limit) (pos 0)) taps_length

  pub twice_at : (i : ℕ) → i < taps_length → get_or (twice h) i (pos 0) ≡ get_or h (i % response_limit) (pos 0)
  twice_at i l = values_at (λ i. get_or h (i % response_limit) (pos 0)) (pos 0) taps_length i l

  row_at : (n j : ℕ) → j < response_limit → get_or (row (twice h) n) j (pos 0) ≡ get_or h j (pos 0)
  row_at n j l =
      let back : (response_limit * (n % 2) + j) % response_limit ≡ j = omega arith in
      get_or-take response_limit (drop (response_limit * (n % 2)) (twice h)) j (pos 0) l ∙ get_or-drop (response_limit * (n % 2)) (twice h) j (pos 0)
      ∙ twice_at (response_limit * (n % 2) + j) (omega arith) ∙ ap (λ (i : ℕ). get_or h i (pos 0)) back

  row_long : (n : ℕ) → length (row (twice h) n) ≡ response_limit
  row_long n =
      length-take-le response_limit (drop (response_limit * (n % 2)) (twice h))
      (omega (arith, length-drop (response_limit * (n % 2)) (twice h), twice_long))

  module _ (few : length h ≤ response_limit) (v : List ℤ) (long : length v ≡ response_limit) (n : ℕ) where
    front : take (length h) (row (twice h) n) ≡ h
    front =
        ext_get_or (pos 0) (take (length h) (row (twice h) n)) h long_front
        (λ j k. let l : j < length h = omega (arith, long_front) in get_or-take (length h) (row (twice h) n) j (pos 0) l ∙ row_at n j (omega arith))
      where
        long_front : length (take (length h) (row (twice h) n)) ≡ length h
        long_front = length-take-le (length h) (row (twice h) n) (omega (arith, row_long n))

    -- 0 more
    more : (d : ℕ) → length h + d ≤ response_limit → dot (take (length h + d) (row (twice h) n)) (take (length h + d) v) ≡ dot h (take (length h) v)
    more zero l =
        let e : length h + 0 ≡ length h = omega arith in
        ap (λ (i : ℕ). dot (take i (row (twice h) n)) (take i v)) e ∙ ap (λ (x : List ℤ). dot x (take (length h) v)) front
    more (suc d) l =
        let j = length h + d in
        let e : length h + suc d ≡ suc j = omega arith in
        let none : get_or (row (twice h) n) j (pos 0) ≡ pos 0 = row_at n j (omega arith) ∙ get_or-eq_default h (pos 0) {n = j} (omega arith) in
        ap (λ (i : ℕ). dot (take i (row (twice h) n)) (take i v)) e ∙ dot_next j (row (twice h) n) v (omega (arith, row_long n)) (omega arith)
        ∙ ap₂ (λ (x y : ℤ). x +ℤ y *ℤ get_or v j (pos 0)) (more d (omega arith)) none
        ∙ ap (λ (x : ℤ). dot h (take (length h) v) +ℤ x) (zero-*ℤ (get_or v j (pos 0))) ∙ +ℤ_idr (dot h (take (length h) v))

    row_dot : dot (row (twice h) n) v ≡ dot h (take (length h) v)
    row_dot =
        sym (ap₂ dot (take_all (length h + (response_limit - length h)) (row (twice h) n) (omega (arith, row_long n))) (take_all (length h + (response_limit - length h)) v (omega arith)))
        ∙ more (response_limit - length h) (omega arith)

module _ (h line : List ℤ) (n : ℕ) (s : LineSummable h line n) where
  pub rows_summable : RowsSummable (twice h) line n
  rows_summable = record {
    taps_long = twice_long h;
    taps_small = each_of _ (pos 0) (twice h)
        (λ i k. rw (twice_at h i (omega (arith, twice_long h))) (each_default (λ (x : ℤ). nat_abs x ≤ 2 ^ 15) h (i % response_limit) s.h_small (omega arith)));
    line_long = s.line_long;
    line_small = s.line_small;
    n_most = s.n_most;
  }

  pub row_sums_are : row_sums (twice h) line n ≡ sums h line n
  row_sums_are =
      values_same (pos 0) _ _ n
      (λ i l. row_dot h s.few (window line response_limit i) (window_long line response_limit i s.line_long (omega arith)) i
      ∙ ap (dot h) (take-take (length h) response_limit (drop (sent_place i) line) s.few))
