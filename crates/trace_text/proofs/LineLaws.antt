-- How long lines are, and lines put together from their fields.
use mathlib.Core.Path.{◌≡◌, sym, ap}
use mathlib.Core.List.{List, [], ◌∷◌, ◌++◌}
use Prim.Native.Nat.{ℕ, zero, suc, ◌+◌, ◌*◌, ◌^◌, ◌≤◌, ◌<◌}
use native.Mathlib.Omega.{arith}
use native.Mathlib.Numerals.{add-one}
use lib.ListN.{length, get_or, length-append}
use lib.IntN.{ℤ, pos, nat_abs}
use Rattle.trace_text.specs.Decimal.{signed_decimal}
use Rattle.trace_text.specs.Text.{space, newline, field, line, stop_line, lines}
use Rattle.trace_text.specs.Calls.{line_limit, TextAt, Printable, AllPrintable}
use Rattle.trace_text.proofs.DecimalLaws.{unsigned_short, signed_short}
use Rattle.trace_text.proofs.TextAtLaws.{text_same, text_long, text_then, text_room, room_front}

-- a number of k + 1 digits and the byte after it
unsigned_field : (k n last : ℕ) → n < 10 ^ suc k → length (field (pos n) last) ≤ k + 2
unfolding field
unsigned_field k n last h = omega (arith, length-append (signed_decimal (pos n)) (last ∷ []), unsigned_short k n h)

signed_field : (k : ℕ) (z : ℤ) (last : ℕ) → nat_abs z < 10 ^ suc k → length (field z last) ≤ k + 3
unfolding field
signed_field k z last h = omega (arith, length-append (signed_decimal z) (last ∷ []), signed_short k z h)

-- whatever byte is after each number
fields_short : (place : ℕ) (Y : ℤ) (ξ : ℕ) (d : ℤ) (a b c e : ℕ) → Printable place Y ξ d → length (field (pos place) a ++ field Y b ++ field (pos ξ) c ++ field d e) ≤ line_limit
fields_short place Y ξ d a b c e p =
    omega (
      arith,
      length-append (field (pos place) a ++ field Y b ++ field (pos ξ) c) (field d e),
      length-append (field (pos place) a ++ field Y b) (field (pos ξ) c),
      length-append (field (pos place) a) (field Y b),
      unsigned_field 4 place a (omega (arith, p.place_below)),
      signed_field 8 Y b (omega (arith, p.Y_below)),
      unsigned_field 1 ξ c (omega (arith, p.ξ_most)),
      signed_field 1 d e (omega (arith, p.decision_below)),
    )

pub line_short : (place : ℕ) (Y : ℤ) (ξ : ℕ) (d : ℤ) → Printable place Y ξ d → length (line place Y ξ d) ≤ line_limit
unfolding line
line_short place Y ξ d p = fields_short place Y ξ d space space space newline p

pub lines_short : (place : ℕ) (Y : List ℤ) (ξ : List ℕ) (d : List ℤ) (i : ℕ) → AllPrintable place Y ξ d → i ≤ length Y → length (lines place Y ξ d i) ≤ line_limit * i
unfolding lines
lines_short place Y ξ d zero p h = omega arith
lines_short place Y ξ d (suc i) p h =
    omega (
      arith,
      length-append (lines place Y ξ d i) (line (place + i) (get_or Y i (pos 0)) (get_or ξ i 0) (get_or d i (pos 0))),
      lines_short place Y ξ d i p (omega arith),
      line_short (place + i) (get_or Y i (pos 0)) (get_or ξ i 0) (get_or d i (pos 0)) (p.each i h),
    )

-- whatever byte is after each number
stop_fields_short : (number block a b : ℕ) → number ≤ 9 → block < 2 ^ 16 → length ((115 ∷ 116 ∷ 111 ∷ 112 ∷ space ∷ []) ++ field (pos number) a ++ field (pos block) b) ≤ line_limit
stop_fields_short number block a b h k =
    let s : List ℕ = 115 ∷ 116 ∷ 111 ∷ 112 ∷ space ∷ [] in
    omega (
      arith,
      length-append (s ++ field (pos number) a) (field (pos block) b),
      length-append s (field (pos number) a),
      unsigned_field 0 number a (omega arith),
      unsigned_field 4 block b (omega arith),
    )

pub stop_short : (number block : ℕ) → number ≤ 9 → block < 2 ^ 16 → length (stop_line number block) ≤ line_limit
unfolding stop_line
stop_short number block h k = stop_fields_short number block space newline h k

-- ---- a field: the text of its number, then a byte

module _ (z : ℤ) (last at : ℕ) (out : List ℕ) {text : List ℕ} (e : text ≡ signed_decimal z) (h : at + length (field z last) ≤ length out) where
  pub field_room : at + length text ≤ length out
  unfolding field
  field_room = omega (arith, ap length e, length-append (signed_decimal z) (last ∷ []), h)

  module _ {end : ℕ} {out₁ : List ℕ} (w : TextAt at text out end out₁) where
    pub last_room : end + 1 ≤ length out₁
    unfolding field
    last_room = text_room (text_same e w) (last ∷ []) h

    pub field_written : {end' : ℕ} {out₂ : List ℕ} → TextAt end (last ∷ []) out₁ end' out₂ → TextAt at (field z last) out end' out₂
    unfolding field
    field_written v = text_then (text_same e w) (omega (arith, h)) v

-- the field of the same number
field_same : (last : ℕ) {at end : ℕ} {z x : ℤ} {o o₁ : List ℕ} → z ≡ x → TextAt at (field z last) o end o₁ → TextAt at (field x last) o end o₁
field_same last e w = text_same (ap (λ (n : ℤ). field n last) e) w

-- ---- the line of a sample: four fields, which have room whatever byte is after each number

module _ (place : ℕ) (Y : ℤ) (ξ : ℕ) (d : ℤ) (at : ℕ) (o : List ℕ) (p : Printable place Y ξ d) (h : at + line_limit ≤ length o) where
  abbrev A : ℕ → List ℕ
  A a = field (pos place) a

  abbrev B : ℕ → List ℕ
  B b = field Y b

  abbrev C : ℕ → List ℕ
  C c = field (pos ξ) c

  abbrev D : ℕ → List ℕ
  D e = field d e

  room₄ : (a b c e : ℕ) → at + length (A a ++ B b ++ C c ++ D e) ≤ length o
  room₄ a b c e = omega (arith, fields_short place Y ξ d a b c e p, h)

  room₃ : (a b c : ℕ) → at + length (A a ++ B b ++ C c) ≤ length o
  room₃ a b c = room_front at (A a ++ B b ++ C c) (D newline) (room₄ a b c newline)

  room₂ : (a b : ℕ) → at + length (A a ++ B b) ≤ length o
  room₂ a b = room_front at (A a ++ B b) (C space) (room₃ a b space)

  module _ {z₁ : ℤ} (e₁ : z₁ ≡ pos place) (a : ℕ) where
    pub line_one : at + length (field z₁ a) ≤ length o
    line_one = rw e₁ (room_front at (A a) (B space) (room₂ a space))

    module _ {m₁ : ℕ} {o₁ : List ℕ} (w₁ : TextAt at (field z₁ a) o m₁ o₁) {z₂ : ℤ} (e₂ : z₂ ≡ Y) (b : ℕ) where
      pub line_two : m₁ + length (field z₂ b) ≤ length o₁
      line_two = rw e₂ (text_room (field_same a e₁ w₁) (B b) (room₂ a b))

      module _ {m₂ : ℕ} {o₂ : List ℕ} (w₂ : TextAt m₁ (field z₂ b) o₁ m₂ o₂) {z₃ : ℤ} (e₃ : z₃ ≡ pos ξ) (c : ℕ) where
        two : TextAt at (A a ++ B b) o m₂ o₂
        two = text_then (field_same a e₁ w₁) (omega (arith, h)) (field_same b e₂ w₂)

        pub line_three : m₂ + length (field z₃ c) ≤ length o₂
        line_three = rw e₃ (text_room two (C c) (room₃ a b c))

        module _ {m₃ : ℕ} {o₃ : List ℕ} (w₃ : TextAt m₂ (field z₃ c) o₂ m₃ o₃) {z₄ : ℤ} (e₄ : z₄ ≡ d) (e : ℕ) where
          three : TextAt at (A a ++ B b ++ C c) o m₃ o₃
          three = text_then two (omega (arith, h)) (field_same c e₃ w₃)

          pub line_four : m₃ + length (field z₄ e) ≤ length o₃
          line_four = rw e₄ (text_room three (D e) (room₄ a b c e))

          pub fields_written : {m₄ : ℕ} {o₄ : List ℕ} → TextAt m₃ (field z₄ e) o₃ m₄ o₄ → TextAt at (A a ++ B b ++ C c ++ D e) o m₄ o₄
          fields_written w₄ = text_then three (omega (arith, h)) (field_same e e₄ w₄)

  -- spaces and a newline make them the line
  module _ {z₁ : ℤ} (e₁ : z₁ ≡ pos place) {m₁ : ℕ} {o₁ : List ℕ} (w₁ : TextAt at (field z₁ space) o m₁ o₁)
      {z₂ : ℤ} (e₂ : z₂ ≡ Y) {m₂ : ℕ} {o₂ : List ℕ} (w₂ : TextAt m₁ (field z₂ space) o₁ m₂ o₂)
      {z₃ : ℤ} (e₃ : z₃ ≡ pos ξ) {m₃ : ℕ} {o₃ : List ℕ} (w₃ : TextAt m₂ (field z₃ space) o₂ m₃ o₃) {z₄ : ℤ} (e₄ : z₄ ≡ d) where
    pub line_written : {m₄ : ℕ} {o₄ : List ℕ} → TextAt m₃ (field z₄ newline) o₃ m₄ o₄ → TextAt at (line place Y ξ d) o m₄ o₄
    unfolding line
    line_written w₄ = fields_written e₁ space w₁ e₂ space w₂ e₃ space w₃ e₄ newline w₄

-- ---- the line of a refusal: a word and two fields

module _ (number block at : ℕ) (o : List ℕ) (number_most : number ≤ 9) (block_below : block < 2 ^ 16) (h : at + line_limit ≤ length o)
    {m₁ : ℕ} {o₁ : List ℕ} (w₁ : TextAt at (115 ∷ 116 ∷ 111 ∷ 112 ∷ space ∷ []) o m₁ o₁) {z₂ : ℤ} (e₂ : z₂ ≡ pos number) (a : ℕ) where
  abbrev S : List ℕ
  S = 115 ∷ 116 ∷ 111 ∷ 112 ∷ space ∷ []

  stop_room₃ : (b : ℕ) → at + length (S ++ field (pos number) a ++ field (pos block) b) ≤ length o
  stop_room₃ b = omega (arith, stop_fields_short number block a b number_most block_below, h)

  stop_room₂ : at + length (S ++ field (pos number) a) ≤ length o
  stop_room₂ = room_front at (S ++ field (pos number) a) (field (pos block) newline) (stop_room₃ newline)

  pub stop_two : m₁ + length (field z₂ a) ≤ length o₁
  stop_two = rw e₂ (text_room w₁ (field (pos number) a) stop_room₂)

  module _ {m₂ : ℕ} {o₂ : List ℕ} (w₂ : TextAt m₁ (field z₂ a) o₁ m₂ o₂) {z₃ : ℤ} (e₃ : z₃ ≡ pos block) (b : ℕ) where
    stop_front : TextAt at (S ++ field (pos number) a) o m₂ o₂
    stop_front = text_then w₁ (omega (arith, h)) (field_same a e₂ w₂)

    pub stop_three : m₂ + length (field z₃ b) ≤ length o₂
    stop_three = rw e₃ (text_room stop_front (field (pos block) b) (stop_room₃ b))

    pub stop_fields_written : {m₃ : ℕ} {o₃ : List ℕ} → TextAt m₂ (field z₃ b) o₂ m₃ o₃ → TextAt at (S ++ field (pos number) a ++ field (pos block) b) o m₃ o₃
    stop_fields_written w₃ = text_then stop_front (omega (arith, h)) (field_same b e₃ w₃)

-- a space and a newline make them the line
module _ (number block at : ℕ) (o : List ℕ) (number_most : number ≤ 9) (block_below : block < 2 ^ 16) (h : at + line_limit ≤ length o)
    {m₁ : ℕ} {o₁ : List ℕ} (w₁ : TextAt at (115 ∷ 116 ∷ 111 ∷ 112 ∷ space ∷ []) o m₁ o₁) {z₂ : ℤ} (e₂ : z₂ ≡ pos number)
    {m₂ : ℕ} {o₂ : List ℕ} (w₂ : TextAt m₁ (field z₂ space) o₁ m₂ o₂) {z₃ : ℤ} (e₃ : z₃ ≡ pos block) where
  pub stop_written : {m₃ : ℕ} {o₃ : List ℕ} → TextAt m₂ (field z₃ newline) o₂ m₃ o₃ → TextAt at (stop_line number block) o m₃ o₃
  unfolding stop_line
  stop_written w₃ = stop_fields_written number block at o number_most block_below h w₁ e₂ space w₂ e₃ newline w₃

-- ---- the lines of a block: i of them are written

module _ {place : ℕ} {Y : List ℤ} {ξ : List ℕ} {d : List ℤ} (p : AllPrintable place Y ξ d) {at : ℕ} {o : List ℕ} (h : at + line_limit * length Y ≤ length o)
    (i : ℕ) (k : i < length Y) {end : ℕ} {o₁ : List ℕ} (w : TextAt at (lines place Y ξ d i) o end o₁) where
  pub line_room : end + line_limit ≤ length o₁
  line_room =
      let short = lines_short place Y ξ d i p (omega arith) in
      omega (arith, h, k, w.end_is, short, text_long w (omega (arith, h, k, short)))

  pub lines_next : {y e : ℤ} {end' : ℕ} {o₂ : List ℕ} → y ≡ get_or Y i (pos 0) → e ≡ get_or d i (pos 0) → TextAt end (line (place + i) y (get_or ξ i 0) e) o₁ end' o₂ →
      TextAt at (lines place Y ξ d (i + 1)) o end' o₂
  unfolding lines
  lines_next a b v = text_same (ap (lines place Y ξ d) (sym (add-one i))) (text_then w (omega (arith, h)) (rw (a, b) at v))
