-- The bytes of a trace: a header, 3 bytes for each sample, one for each training entry.
use Rattle.std.specs.Prelude.{Bool, ◌&&◌, List, [], ◌∷◌, ◌++◌, ℕ, ◌+◌, ◌*◌, leb, eqb, length, ℤ}
use Rattle.std.specs.Int.{w8, w16}
use Rattle.std.proofs.Common.{of_z, to_z}
use Rattle.laws.specs.Values.{values, joined}
use Rattle.words.specs.Words.{bytes, byte_at, number_at, width}
use Rattle.steps.specs.Settings.{Settings}

-- bytes of a header, and the most of a trace
abbrev pub trace_header_length : ℕ
trace_header_length = 12

abbrev pub trace_limit : ℕ
trace_limit = 65536

-- ---- what is read

-- p, q, N, r, L, a 0 byte, the block count and M
abbrev pub settings_in : List ℕ → Settings
settings_in t = record { p = byte_at t 0; q = byte_at t 1; N = byte_at t 2; r = byte_at t 3; L = byte_at t 4; M = number_at 4 t 8 }

abbrev pub count_in : List ℕ → ℕ
count_in t = number_at 2 t 6

-- how many samples the trace has
abbrev pub samples_in : List ℕ → ℕ
samples_in t = (settings_in t).N * count_in t

-- 8: the length is wrong or too large, or byte 5 is not 0
unfoldable pub well_formed : List ℕ → Bool
well_formed t =
    leb trace_header_length (length t) && leb (length t) trace_limit && eqb (length t) (trace_header_length + 4 * samples_in t) && eqb (byte_at t 5) 0

-- where a sample begins; the training entries begin where the samples end
abbrev pub sample_start : ℕ → ℕ
sample_start n = trace_header_length + 3 * n

-- m, gain and training entry of a sample, by its place in the whole trace
abbrev pub trace_sample : List ℕ → ℕ → ℤ
trace_sample t n = to_z w16 (number_at 2 t (sample_start n))

abbrev pub trace_gain : List ℕ → ℕ → ℕ
trace_gain t n = byte_at t (sample_start n + 2)

abbrev pub trace_entry : List ℕ → ℕ → ℤ
trace_entry t n = to_z w8 (byte_at t (sample_start (samples_in t) + n))

-- those of n samples, the first of which has this place
abbrev pub samples_from : List ℕ → ℕ → ℕ → List ℤ
samples_from t first n = values (λ j. trace_sample t (first + j)) n

abbrev pub gains_from : List ℕ → ℕ → ℕ → List ℕ
gains_from t first n = values (λ j. trace_gain t (first + j)) n

abbrev pub entries_from : List ℕ → ℕ → ℕ → List ℤ
entries_from t first n = values (λ j. trace_entry t (first + j)) n

-- ---- what is written

-- p, q, N, r, L, a 0 byte, the block count and M
abbrev pub trace_header : Settings → ℕ → List ℕ
trace_header k count = k.p ∷ k.q ∷ k.N ∷ k.r ∷ k.L ∷ 0 ∷ (bytes 2 count ++ bytes 4 k.M)

-- m and its gain
abbrev pub sample_bytes : ℤ → ℕ → List ℕ
sample_bytes m g = bytes (width w16) (of_z w16 m) ++ (g ∷ [])

-- m, gains and training entries by their places, of n samples
abbrev pub sample_part : (ℕ → ℤ) → (ℕ → ℕ) → ℕ → List ℕ
sample_part m g n = joined (λ i. sample_bytes (m i) (g i)) n

abbrev pub entry_part : (ℕ → ℤ) → ℕ → List ℕ
entry_part e n = values (λ i. of_z w8 (e i)) n

unfoldable pub trace_of : Settings → ℕ → (ℕ → ℤ) → (ℕ → ℕ) → (ℕ → ℤ) → ℕ → List ℕ
trace_of k count m g e n = trace_header k count ++ (sample_part m g n ++ entry_part e n)
