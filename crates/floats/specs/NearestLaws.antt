-- A fraction rounded to a float: no float of the format is nearer to it.
use Rattle.std.specs.Prelude.{◌≡◌, refl, Bool, true, false, not, ◌&&◌, ℤ, pos, negsuc, T, leb, ltb, eqb, Float}
use Rattle.std.proofs.Common.{sym, ap, ap₂, ◌∙◌, subst, true≢false, arith, le_trans, le_of_eq, lt_of_le_of_lt, div-le_self, div-add-mod', mod-lt, mul-le-mul_right, mul-pos, mul_comm, mul-add, le_of_mul-le-mul_right, le-div_iff_mul-le, ltb→lt, leb→le, eqb→eq}
use Prim.Native.Nat.{ℕ, zero, suc, ◌+◌, ◌-◌, ◌*◌, ◌/◌, ◌%◌, ◌^◌, ◌≤◌, ◌<◌, compare, Ordering}
use Rattle.std.proofs.Math.Nat.{div-div-eq-div-mul, mul-sub}
use Rattle.std.proofs.Math.Dec.{is_le, compare_is_eq, nleb→lt, eqb_refl}
use Rattle.std.proofs.Math.Arith.{lt_of_le-ne}
use Rattle.std.specs.Float.{nan, inf, fin, Format, binary64}
use Rattle.std.specs.Float.Ieee.{prec, emax, low, up, down, size, nearest, round, fits}
use Rattle.std.specs.Float.Ieee.Digits.{size_reaches, size-le}
use Rattle.std.specs.Float.Ieee.Exact.{HasValue}
use Rattle.std.specs.Float.Ieee.Fits.{and_l, and_r, two, two-le_pos, nearest-le, kept-lt, round-fits, down_pos}
use Rattle.std.specs.Float.Ieee.Nearest.{closest}
use Rattle.std.specs.Float.Ieee.Order.{drop, kept}
use Rattle.std.specs.Float.Ieee.Positive.{num, den}
use Rattle.std.specs.Float.Ieee.Scale.{grid, overflow, finite, round_val}
use Rattle.laws.specs.Powers.{split, positive, rises, rises_strictly, raise, below, exponent_le}
use Rattle.floats.specs.Floats.{AtMost, apart, off, Nearest}

-- ---- whole numbers

-- n is q·u + r, and w any other whole number
below_it : (q u r w n : ℕ) → n ≡ q * u + r → w ≤ q → r ≤ apart (w * u) n
below_it q u r w n e h = omega (arith, mul-le-mul_right u h)

above_it : (q u r w n : ℕ) → n ≡ q * u + r → r < u → q < w → u - r ≤ apart (w * u) n
above_it q u r w n e l h = omega (arith, mul-le-mul_right u h)

abbrev Compared : Ordering → ℕ → ℕ → Type 0
Compared Ordering.lt a b = a < b
Compared Ordering.eq a b = a ≡ b
Compared Ordering.gt a b = b < a

compared : (a b : ℕ) → Compared (compare a b) a b
compared a b = go (compare a b) (leb→le a b) (nleb→lt a b) (eqb→eq a b) (λ (e : a ≡ b). subst (λ (x : ℕ). T (eqb a x)) e (eqb_refl a))
  where
    go : (o : Ordering) → (T (is_le o) → a ≤ b) → (T (not (is_le o)) → b < a) → (T (compare_is_eq o) → a ≡ b) → (a ≡ b → T (compare_is_eq o)) → Compared o a b
    go Ordering.lt h k e n = lt_of_le-ne (h tt) n
    go Ordering.eq h k e n = e tt
    go Ordering.gt h k e n = k tt

-- half of u either way
halfway : (q u r n d : ℕ) → n ≡ q * u + r → r < u → r * 2 ≡ u → d < 2 → (apart ((q + d) * u) n ≤ r) × (apart ((q + d) * u) n ≤ u - r)
halfway q u r n zero e l h k = (omega arith, omega arith)
halfway q u r n (suc zero) e l h k = (omega arith, omega arith)
halfway q u r n (suc (suc d)) e l h k = absurd (omega arith)

chosen : (q u r n : ℕ) (o : Ordering) → n ≡ q * u + r → r < u → Compared o (r * 2) u → (apart (nearest q o * u) n ≤ r) × (apart (nearest q o * u) n ≤ u - r)
chosen q u r n Ordering.lt e l h = (omega arith, omega arith)
chosen q u r n Ordering.eq e l h = halfway q u r n (q % 2) e l h (omega arith)
chosen q u r n Ordering.gt e l h = (omega arith, omega arith)

closest_least : (n u w : ℕ) → 0 < u → apart (closest n u * u) n ≤ apart (w * u) n
closest_least n u w U = go (leb w q) (leb→le w q) (nleb→lt w q)
  where
    q : ℕ
    q = n / u

    e : n ≡ q * u + n % u
    e = sym (div-add-mod' n u)

    near : (apart (closest n u * u) n ≤ n % u) × (apart (closest n u * u) n ≤ u - n % u)
    near = chosen q u (n % u) n (compare (n % u * 2) u) e (mod-lt n U) (compared (n % u * 2) u)

    go : (b : Bool) → (T b → w ≤ q) → (T (not b) → q < w) → apart (closest n u * u) n ≤ apart (w * u) n
    go true h k = le_trans near.0 (below_it q u (n % u) w n e (h tt))
    go false h k = le_trans near.1 (above_it q u (n % u) w n e (mod-lt n U) (k tt))

-- ---- floats, in units of the format's smallest value

further : (d x t n : ℕ) → d ≤ apart t n → x ≤ t → t ≤ n → d ≤ apart x n
further d x t n h a b = omega arith

-- m·2^j as a multiple of 2^k
raised : (m j k c : ℕ) → k ≤ j → m * 2 ^ (j - k) * (c * 2 ^ k) ≡ m * 2 ^ j * c
raised m j k c h = omega (arith, ap (λ (x : ℕ). m * x * c) (below h))

-- m·2^j is below the least number of p digits times 2^k
lower : (m p j k c : ℕ) → m < 2 ^ p → 0 < p → j < k → m * 2 ^ j * c ≤ 2 ^ (p - 1) * (c * 2 ^ k)
lower m p j k c h P l =
    let e : 2 ^ (p - 1 + k) ≡ 2 ^ (p - 1) * 2 ^ k = split (p - 1 + k) (p - 1) k refl in
    let a : m * 2 ^ j < 2 ^ (p + j) = raise m (p + j) p j refl h in
    let b : 2 ^ (p + j) ≤ 2 ^ (p - 1 + k) = rises (omega arith) in
    let d : m * 2 ^ j ≤ 2 ^ (p - 1) * 2 ^ k = omega (arith, a, b, e) in
    omega (arith, mul-le-mul_right c d)

in_use : (z p : ℕ) {j : ℕ} → 0 < p → j < z - p → p - 1 + (z - p) < z
in_use z p P h = omega arith

reached : (p n c k : ℕ) → 0 < p → 0 < c → p - 1 + k < size (n / c) → 2 ^ (p - 1) * (c * 2 ^ k) ≤ n
reached p n c k P C h =
    let a : 2 ^ (p - 1 + k) * c ≤ n = (le-div_iff_mul-le C).0 (size_reaches (n / c) (p - 1 + k) h) in
    omega (arith, a, ap (λ (x : ℕ). x * c) (split (p - 1 + k) (p - 1) k refl))

-- of the fraction n / c a format of p digits keeps a number that is at least as near as m·2^j, where m has p digits
kept_least : (p n c m j : ℕ) → 0 < p → 0 < c → m < 2 ^ p → apart (kept p n c * 2 ^ drop p n c * c) n ≤ apart (m * 2 ^ j * c) n
kept_least p n c m j P C M = go (leb k j) (leb→le k j) (nleb→lt k j)
  where
    k : ℕ
    k = drop p n c

    u : ℕ
    u = c * 2 ^ k

    least : (w : ℕ) → apart (kept p n c * 2 ^ k * c) n ≤ apart (w * u) n
    least w = subst (λ (x : ℕ). apart x n ≤ apart (w * u) n) (turn (kept p n c) c (2 ^ k)) (closest_least n u w (mul-pos C (positive k)))
      where
        turn : (x c y : ℕ) → x * (c * y) ≡ x * y * c
        turn x c y = omega arith

    go : (b : Bool) → (T b → k ≤ j) → (T (not b) → j < k) → apart (kept p n c * 2 ^ k * c) n ≤ apart (m * 2 ^ j * c) n
    go true h l = subst (λ (x : ℕ). apart (kept p n c * 2 ^ k * c) n ≤ apart x n) (raised m j k c (h tt)) (least (m * 2 ^ (j - k)))
    go false h l = further (apart (kept p n c * 2 ^ k * c) n) (m * 2 ^ j * c) (2 ^ (p - 1) * u) n (least (2 ^ (p - 1))) (lower m p j k c M P (l tt)) (reached p n c k P C (in_use (size (n / c)) p P (l tt)))

-- a value of the format is m·2^j of its smallest values, where m has as many digits as it keeps
record InUnits (f : Format) (m : ℕ) (e : ℤ) : Type 0 where
  j : ℕ
  short : m < 2 ^ prec f
  is : m * up e * 2 ^ low f ≡ m * 2 ^ j * down e

raised_pos : (l i m : ℕ) → m * 2 ^ i * 2 ^ l ≡ m * 2 ^ (i + l) * 1
raised_pos l i m = omega (arith, ap (λ (x : ℕ). m * x) (split (i + l) i l refl))

raised_neg : (l i m : ℕ) → suc i ≤ l → m * 1 * 2 ^ l ≡ m * 2 ^ (l - suc i) * 2 ^ suc i
raised_neg l i m h = omega (arith, ap (λ (x : ℕ). m * x) (below h))

nothing : (a b c : ℕ) → 0 * a * b ≡ 0 * 2 ^ 0 * c
nothing a b c = omega arith

in_units : (f : Format) (s : Bool) (m : ℕ) (e : ℤ) → T (fits f (fin s m e)) → InUnits f m e
unfolding fits
in_units f s zero e h = record { j = 0; short = positive (prec f); is = nothing (up e) (2 ^ low f) (down e) }
in_units f s (suc m) (pos i) h =
    let a : Bool = eqb (suc m % 2) 1 in
    let b : Bool = ltb (suc m) (2 ^ prec f) in
    let t = and_l (a && b) (leb 1 (2 ^ low f)) (and_l (a && b && leb 1 (2 ^ low f)) (ltb (suc m * 2 ^ i) (2 ^ suc (emax f) * 1)) h) in
    record { j = i + low f; short = ltb→lt (suc m) (2 ^ prec f) (and_r a b t); is = raised_pos (low f) i (suc m) }
in_units f s (suc m) (negsuc i) h =
    let a : Bool = eqb (suc m % 2) 1 in
    let b : Bool = ltb (suc m) (2 ^ prec f) in
    let d : Bool = leb (2 ^ suc i) (2 ^ low f) in
    let t = and_l (a && b && d) (ltb (suc m * 1) (2 ^ suc (emax f) * 2 ^ suc i)) h in
    record {
      j = low f - suc i;
      short = ltb→lt (suc m) (2 ^ prec f) (and_r a b (and_l (a && b) d t));
      is = raised_neg (low f) i (suc m) (exponent_le (suc i) (low f) (leb→le (2 ^ suc i) (2 ^ low f) (and_r (a && b) d t)));
    }

-- ---- a fraction that no f64 is too small for

kept_le : (p n c : ℕ) → kept p n c ≤ 2 ^ p
kept_le p n c =
    let k = drop p n c in
    let u = c * 2 ^ k in
    le_trans (nearest-le (n / u) (compare (n % u * 2) u)) (subst (λ (x : ℕ). x < 2 ^ p) (div-div-eq-div-mul n c (2 ^ k)) (kept-lt p (n / c)))

-- below 2^b it is rounded to 2^(53 + b) of the smallest values at most
pub small : (a c b : ℕ) → 0 < c → a < 2 ^ b → b ≤ 900 → grid binary64 a c < overflow binary64
small a c b C h l =
    let n = a * 2 ^ 1074 in
    let k = drop 53 n c in
    let w : n / c < 2 ^ (b + 1074) = lt_of_le_of_lt (div-le_self n c) (raise a (b + 1074) b 1074 refl h) in
    let K : k ≤ b + 1074 = le_trans (less (size (n / c)) 53) (size-le (n / c) (b + 1074) w) in
    lt_of_le_of_lt (mul-le-mul_right (2 ^ k) (kept_le 53 n c)) (lt_of_le_of_lt (le_of_eq (sym (split (53 + k) 53 k refl))) (rises_strictly {b = 2098} (omega arith)))
  where
    less : (z p : ℕ) → z - p ≤ z
    less z p = omega arith

-- ---- all of it

apart_scale : (x y t : ℕ) → apart (x * t) (y * t) ≡ apart x y * t
apart_scale x y t =
    ap₂ apart (mul_comm x t) (mul_comm y t) ∙ ap₂ ◌+◌ (sym (mul-sub t x y)) (sym (mul-sub t y x)) ∙ sym (mul-add t (x - y) (y - x)) ∙ mul_comm t (apart x y)

-- x / p is X of the units 1 / u
apart_units : (x p X a c u : ℕ) → x * u ≡ X * p → apart (x * c) (a * p) * u ≡ apart (X * c) (a * u) * p
apart_units x p X a c u e =
    sym (apart_scale (x * c) (a * p) u) ∙ ap₂ apart (turn x c u ∙ ap (λ (y : ℕ). y * c) e ∙ turn X p c) (turn a p u) ∙ apart_scale (X * c) (a * u) p
  where
    turn : (x y z : ℕ) → x * y * z ≡ x * z * y
    turn x y z = omega arith

sum_units : (x p X a c u : ℕ) → x * u ≡ X * p → (x * c + a * p) * u ≡ (X * c + a * u) * p
sum_units x p X a c u e = omega (arith, ap (λ (y : ℕ). y * c) e)

-- a negative x is further off than 0
from_zero : (d c n w : ℕ) → d ≤ apart (0 * 1 * c) n → d ≤ w + n
from_zero d c n w h = omega arith

-- the same order with a common denominator
joined : (r x R X p q u : ℕ) → 0 < u → r * u ≡ R * q → x * u ≡ X * p → R ≤ X → r * p ≤ x * q
joined r x R X p q u U h k l = le_of_mul-le-mul_right {k = u} (omega (arith, ap (λ (y : ℕ). y * p) h, ap (λ (y : ℕ). y * q) k, mul-le-mul_right (p * q) l)) U

module _ (f : Format) (a c : ℕ) (C : 0 < c) (h : grid f a c < overflow f) where
  abbrev u : ℕ
  u = 2 ^ low f

  least_of : (m j : ℕ) → m < 2 ^ prec f → apart (grid f a c * c) (a * u) ≤ apart (m * 2 ^ j * c) (a * u)
  least_of m j M = kept_least (prec f) (a * u) c m j (two-le_pos (prec f) (two f)) C M

  least_is : (r : Float) → HasValue r false (grid f a c) u → (x : Float) → T (fits f x) → T (finite x) → off r a c * den x ≤ off x a c * den r
  least_is nan v x F t = absurd v
  least_is (inf s) v x F t = absurd v
  least_is (fin true n d) v x F t = absurd (true≢false v.0)
  least_is (fin false n d) v nan F t = absurd t
  least_is (fin false n d) v (inf s) F t = absurd t
  least_is (fin false n d) v (fin true m e) F t =
      let k = in_units f true m e F in
      joined (off (fin false n d) a c) (off (fin true m e) a c) (apart (grid f a c * c) (a * u)) (m * 2 ^ k.j * c + a * u) (down e) (down d) u (positive (low f))
      (apart_units (n * up d) (down d) (grid f a c) a c u v.1) (sum_units (m * up e) (down e) (m * 2 ^ k.j) a c u k.is)
      (from_zero (apart (grid f a c * c) (a * u)) c (a * u) (m * 2 ^ k.j * c) (least_of 0 0 (positive (prec f))))
  least_is (fin false n d) v (fin false m e) F t =
      let k = in_units f false m e F in
      joined (off (fin false n d) a c) (off (fin false m e) a c) (apart (grid f a c * c) (a * u)) (apart (m * 2 ^ k.j * c) (a * u)) (down e) (down d) u (positive (low f))
      (apart_units (n * up d) (down d) (grid f a c) a c u v.1) (apart_units (m * up e) (down e) (m * 2 ^ k.j) a c u k.is) (least_of m k.j k.short)

  number_is : (r : Float) → HasValue r false (grid f a c) u → T (finite r)
  number_is nan v = absurd v
  number_is (inf s) v = absurd v
  number_is (fin s n d) v = tt

  pub rounded_nearest : Nearest f (round f false a c) a c
  rounded_nearest = let v = round_val f a c h in record { own = round-fits f false a c; number = number_is (round f false a c) v; least = least_is (round f false a c) v }

-- ---- what a nearest value is at most

-- r / p is as near to a / c as x / q, which is not below it
nearer : (o r p x q a c : ℕ) → 0 < c → a * q ≤ x * c → r * c ≤ o + a * p → o * q ≤ apart (x * c) (a * q) * p → r * q ≤ x * p
nearer o r p x q a c C h k l =
    let d : apart (x * c) (a * q) + a * q ≡ x * c = omega arith in
    le_of_mul-le-mul_right (omega (arith, mul-le-mul_right q k, ap (λ (y : ℕ). y * p) d, l)) C

off_least : (r : Float) (a c : ℕ) → T (finite r) → num r * c ≤ off r a c + a * den r
off_least nan a c t = absurd t
off_least (inf s) a c t = absurd t
off_least (fin true m e) a c t = omega arith
off_least (fin false m e) a c t = apart_least (m * up e * c) (a * down e)
  where
    apart_least : (x y : ℕ) → x ≤ apart x y + y
    apart_least x y = omega arith

-- x / q is b / d
not_below : (x q a c b d : ℕ) → 0 < d → x * d ≡ b * q → a * d ≤ b * c → a * q ≤ x * c
not_below x q a c b d D e h = le_of_mul-le-mul_right (omega (arith, mul-le-mul_right q h, ap (λ (y : ℕ). y * c) e)) D

carried : (r p x q b d : ℕ) → 0 < q → x * d ≡ b * q → r * q ≤ x * p → r * d ≤ b * p
carried r p x q b d Q e h = le_of_mul-le-mul_right (omega (arith, mul-le-mul_right d h, ap (λ (y : ℕ). y * p) e)) Q

-- no more than any value of the format that is not below a / c
pub nearest_at_most : (f : Format) (r : Float) (a c : ℕ) → 0 < c → Nearest f r a c → (x : Float) (b d : ℕ) → T (fits f x) → HasValue x false b d → 0 < d → a * d ≤ b * c → AtMost r b d
nearest_at_most f r a c C n nan b d t v D h = absurd v
nearest_at_most f r a c C n (inf s) b d t v D h = absurd v
nearest_at_most f r a c C n (fin true m e) b d t v D h = absurd (true≢false v.0)
nearest_at_most f nan a c C n (fin false m e) b d t v D h = absurd n.number
nearest_at_most f (inf s) a c C n (fin false m e) b d t v D h = absurd n.number
nearest_at_most f (fin s k g) a c C n (fin false m e) b d t v D h =
    carried (k * up g) (down g) (m * up e) (down e) b d (down_pos e) v.1
    (nearer (off (fin s k g) a c) (k * up g) (down g) (m * up e) (down e) a c C (not_below (m * up e) (down e) a c b d D v.1 h) (off_least (fin s k g) a c tt) (n.least (fin false m e) t tt))

-- a larger fraction
pub at_most_more : (x : Float) (a c b d : ℕ) → 0 < c → a * d ≤ b * c → AtMost x a c → AtMost x b d
at_most_more nan a c b d C h k = k
at_most_more (inf s) a c b d C h k = k
at_most_more (fin s m e) a c b d C h k = more (m * up e) (down e) a c b d C h k
  where
    more : (r p a c b d : ℕ) → 0 < c → a * d ≤ b * c → r * c ≤ a * p → r * d ≤ b * p
    more r p a c b d C h k = le_of_mul-le-mul_right (omega (arith, mul-le-mul_right d k, mul-le-mul_right p h)) C
