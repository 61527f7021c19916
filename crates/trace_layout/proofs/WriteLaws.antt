-- What is written is read back.
use mathlib.Core.Path.{◌≡◌, refl, sym, ap, ap₂, ◌∙◌}
use mathlib.Core.Bool.{true}
use mathlib.Core.List.{List, [], ◌∷◌, ◌++◌, append_assoc, append-nil}
use Prim.Native.Nat.{ℕ, suc, ◌+◌, ◌*◌, ◌^◌, ◌≤◌, ◌<◌}
use native.Mathlib.Omega.{arith}
use lib.Dec.{eqb}
use lib.ListN.{length, get_or, take, length-append, drop_of_length-le, get_or-append}
use lib.Seq.{sets, sets-eq, length-sets, lt-length-sets, get_or-append-add}
use lib.IntN.{ℤ, nat_abs}
use mir.Syntax.{w8, w16}
use mir.Val.{of_z, to_z}
use mir.Facts.{to_z-of_z, Fits-of_z}
use borrow.Author.Tests.{eq-eqb}
use Rattle.laws.specs.Machine.{fits_abs}
use Rattle.laws.specs.Tests.{both}
use Rattle.laws.specs.Values.{values_length, values_at, joined_length, joined_at}
use Rattle.steps.specs.Limits.{data_unit}
use Rattle.words.specs.Words.{bytes, byte_at, number_at}
use Rattle.words.proofs.ByteLaws.{bytes_length, two_bytes, number_after, number_front}
use Rattle.words.proofs.PutLaws.{sets_append}
use Rattle.steps.specs.Settings.{Settings}
use Rattle.trace_layout.specs.Trace.{trace_header_length, trace_limit, settings_in, count_in, samples_in, well_formed, sample_start, trace_sample, trace_gain, trace_entry, trace_header, sample_bytes, sample_part, entry_part, trace_of}
use Rattle.trace_layout.proofs.ReadLaws.{well_tested}

-- ---- the header

counts_length : (n m : ℕ) → length (bytes 2 n ++ bytes 4 m) ≡ 6
counts_length n m = length-append (bytes 2 n) (bytes 4 m) ∙ omega (arith, bytes_length 2 n, bytes_length 4 m)

pub header_length : (k : Settings) (count : ℕ) → length (trace_header k count) ≡ trace_header_length
header_length k count = ap (λ (n : ℕ). suc (suc (suc (suc (suc (suc n)))))) (counts_length _ k.M)

-- ---- a whole trace

module _ (k : Settings) (count : ℕ) (m : ℕ → ℤ) (g : ℕ → ℕ) (e : ℕ → ℤ) (n : ℕ) where
  abbrev t : List ℕ
  t = trace_of k count m g e n

  abbrev rest : List ℕ
  rest = sample_part m g n ++ entry_part e n

  pub trace_parts : trace_header k count ++ rest ≡ t
  unfolding trace_of
  trace_parts = refl

  -- the count and M, and what comes after them
  abbrev ends : List ℕ
  ends = bytes 2 count ++ (bytes 4 k.M ++ rest)

  abbrev flat : List ℕ
  flat = k.p ∷ k.q ∷ k.N ∷ k.r ∷ k.L ∷ 0 ∷ ends

  is_flat : t ≡ flat
  unfolding trace_of
  is_flat = ap (λ (l : List ℕ). k.p ∷ k.q ∷ k.N ∷ k.r ∷ k.L ∷ 0 ∷ l) (append_assoc (bytes 2 count) (bytes 4 k.M) rest)

  pub settings_back : k.M < 2 ^ 32 → settings_in t ≡ k
  settings_back h =
      ap settings_in is_flat
      ∙ ap (λ (M : ℕ). record { p = k.p; q = k.q; N = k.N; r = k.r; L = k.L; M = M }) (ap (number_at 4 ends) two ∙ number_after 4 (bytes 2 count) (bytes 4 k.M ++ rest) 0 ∙ number_front 4 k.M rest h)
    where
      two : 2 ≡ length (bytes 2 count) + 0
      two = omega (arith, bytes_length 2 count)

  pub count_back : count < 2 ^ 16 → count_in t ≡ count
  count_back h = ap count_in is_flat ∙ number_front 2 count (bytes 4 k.M ++ rest) h

  fifth : byte_at t 5 ≡ 0
  fifth = ap (λ (l : List ℕ). byte_at l 5) is_flat

  -- ---- lengths

  three : (i : ℕ) → length (sample_bytes (m i) (g i)) ≡ 3
  three i = length-append (bytes 2 (of_z w16 (m i))) (g i ∷ []) ∙ omega (arith, bytes_length 2 (of_z w16 (m i)))

  part_length : length (sample_part m g n) ≡ 3 * n
  part_length = joined_length (λ i. sample_bytes (m i) (g i)) 3 three n

  pub trace_length_lem : length t ≡ trace_header_length + 4 * n
  unfolding trace_of
  trace_length_lem =
      length-append (trace_header k count) rest
      ∙ omega (arith, header_length k count, length-append (sample_part m g n) (entry_part e n), part_length, values_length (λ i. of_z w8 (e i)) n)

  module _ (whole : k.N * count ≡ n) (short : count < 2 ^ 16) (step : k.M < 2 ^ 32) where
    pub samples_back : samples_in t ≡ n
    samples_back = ap₂ (λ (a b : ℕ). a * b) (ap (λ (s : Settings). s.N) (settings_back step)) (count_back short) ∙ whole

    pub well_formed_back : length t ≤ trace_limit → well_formed t ≡ true
    well_formed_back h =
        well_tested t (omega (arith, trace_length_lem)) h
        ∙ both (eqb (length t) (trace_header_length + 4 * samples_in t)) (eqb (byte_at t 5) 0)
        (eq-eqb (length t) (trace_header_length + 4 * samples_in t) (trace_length_lem ∙ ap (λ (a : ℕ). trace_header_length + 4 * a) (sym samples_back))) (eq-eqb (byte_at t 5) 0 fifth)

  -- ---- the samples

  after : (i : ℕ) → byte_at t (trace_header_length + i) ≡ byte_at rest i
  unfolding trace_of
  after i = ap (λ (a : ℕ). byte_at t (a + i)) (sym (header_length k count)) ∙ get_or-append-add (trace_header k count) rest i 0

  module _ (i : ℕ) (h : i < n) where
    -- a byte of the sample by its place in it
    sample_byte : (a j : ℕ) → a ≡ trace_header_length + (3 * i + j) → j < 3 → byte_at t a ≡ get_or (sample_bytes (m i) (g i)) j 0
    sample_byte a j q b =
        ap (byte_at t) q ∙ after (3 * i + j)
        ∙ get_or-append (sample_part m g n) (entry_part e n) 0 (3 * i + j) (omega (arith, part_length))
        ∙ joined_at (λ i. sample_bytes (m i) (g i)) 3 three n i j h b

    pub gain_back : trace_gain t i ≡ g i
    gain_back =
        sample_byte (sample_start i + 2) 2 (omega arith) (omega arith)
        ∙ ap (λ (l : List ℕ). get_or (l ++ (g i ∷ [])) 2 0) (two_bytes (of_z w16 (m i)))

    pub sample_back : nat_abs (m i) < 2 ^ data_unit → trace_sample t i ≡ m i
    sample_back small =
        let f = fits_abs {w = w16} (m i) small in
        ap₂ (λ (a b : ℕ). to_z w16 (a + 256 * (b + 256 * 0))) (sample_byte (sample_start i) 0 (omega arith) (omega arith)) (sample_byte (sample_start i + 1) 1 (omega arith) (omega arith))
        ∙ ap (to_z w16) (number_front 2 (of_z w16 (m i)) (g i ∷ []) (Fits-of_z f).fits) ∙ to_z-of_z f

    pub entry_back : samples_in t ≡ n → nat_abs (e i) < 2 ^ 7 → trace_entry t i ≡ e i
    entry_back all small =
        let at : sample_start (samples_in t) + i ≡ trace_header_length + (length (sample_part m g n) + i) = omega (arith, part_length, all) in
        ap (to_z w8)
        (ap (byte_at t) at ∙ after (length (sample_part m g n) + i) ∙ get_or-append-add (sample_part m g n) (entry_part e n) i 0 ∙ values_at (λ i. of_z w8 (e i)) 0 n i h)
        ∙ to_z-of_z (fits_abs {w = w8} (e i) small)

-- ---- the header as it is stored

module _ (k : Settings) (count : ℕ) (out : List ℕ) (h : length out ≡ trace_header_length) where
  -- a place while the bytes before it are stored
  pub header_room : (i : ℕ) → i < trace_header_length → i < length (sets out 0 (take i (trace_header k count)))
  header_room i b = lt-length-sets out 0 (take i (trace_header k count)) (omega arith)

  -- the first six bytes, and the count after them
  abbrev pub headed : List ℕ
  headed = sets out 0 (take 6 (trace_header k count))

  abbrev pub counted : List ℕ
  counted = sets headed 6 (bytes 2 count)

  pub headed_long : 6 + 2 ≤ length headed
  headed_long = omega (arith, length-sets out 0 (take 6 (trace_header k count)))

  pub counted_long : 8 + 4 ≤ length counted
  counted_long = omega (arith, length-sets headed 6 (bytes 2 count), length-sets out 0 (take 6 (trace_header k count)))

  pub header_put : sets counted 8 (bytes 4 k.M) ≡ trace_header k count
  header_put =
      let l = trace_header k count in
      let e : 6 + length (bytes 2 count) ≡ 8 = omega (arith, bytes_length 2 count) in
      ap (λ (i : ℕ). sets counted i (bytes 4 k.M)) (sym e) ∙ sym (sets_append headed 6 (bytes 2 count) (bytes 4 k.M))
      ∙ sets-eq l out 0 (omega (arith, header_length k count)) ∙ ap (λ (r : List ℕ). l ++ r) (drop_of_length-le out {i = 0 + length l} (omega (arith, header_length k count))) ∙ append-nil l
