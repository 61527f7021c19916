-- What the functions of the cable ask of each other.
use Rattle.std.specs.Prelude.{◌≡◌, true, cond, List, ◌++◌, map, ℕ, zero, suc, ◌+◌, ◌*◌, ◌-◌, ◌/◌, ◌%◌, ◌^◌, ◌≤◌, leb, ltb, length, get_or, take, drop, replicate, ℤ, pos, negsuc, nat_abs}
use Rattle.std.proofs.lemmas.List.Edits.{sets}
use Rattle.laws.specs.Sums.{Each, dot}
use Rattle.std.specs.Int.{w8, w16}
use Rattle.std.proofs.Common.{of_z}
use Rattle.laws.specs.Values.{values, joined}
use Rattle.words.specs.Words.{bytes}
use Rattle.numbers.specs.BitLength.{bit_length}
use Rattle.numbers.specs.Cut.{rescale}
use Rattle.steps.specs.Limits.{data_unit, symbol_limit, gain_limit}
use Rattle.steps.specs.Settings.{Settings}
use Rattle.trace_layout.specs.Trace.{trace_header_length, trace_limit, trace_header}
use Rattle.cable_trace.specs.Limits.{response_limit}
use Rattle.state.specs.Sizes.{settings_number}
use Rattle.cable_trace.specs.Cable.{Cable, s, gain, has_gain, sample, list_cause}

-- ---- lengths that follow from those of a trace

-- a response twice
abbrev pub taps_length : ℕ
taps_length = 2 * response_limit

-- symbols: a sample and its training entry take 4 bytes of the trace
abbrev pub sent_limit : ℕ
sent_limit = (trace_limit - trace_header_length) / 4

-- the length of a line: the symbols, and what was there before the first
abbrev pub sent_line_length : ℕ
sent_line_length = sent_limit + response_limit

-- ---- the symbols in a line, newest first, and 0 from place sent_limit on

abbrev pub sent_place : ℕ → ℕ
sent_place n = sent_limit - 1 - n

abbrev pub placed : List ℤ → ℕ → ℤ
placed symbols i = cond (ltb i sent_limit) (get_or symbols (sent_place i) (pos 0)) (pos 0)

abbrev pub line_of : List ℤ → List ℤ
line_of symbols = values (placed symbols) sent_line_length

-- work areas before they are written: a line, and s of each symbol
unfoldable pub empty_line : List ℤ
empty_line = replicate sent_line_length (pos 0)

unfoldable pub empty_sums : List ℤ
empty_sums = replicate sent_limit (pos 0)

-- the k symbols that are newest at place n
abbrev pub window : List ℤ → ℕ → ℕ → List ℤ
window line k n = take k (drop (sent_place n) line)

-- ---- sums

-- s of each of n symbols, from their line
abbrev pub sums : List ℤ → List ℤ → ℕ → List ℤ
sums h line n = values (λ i. dot h (window line (length h) i)) n

pub record LineSummable (h line : List ℤ) (n : ℕ) : Type 0 where
  pub few : length h ≤ response_limit
  pub h_small : Each (λ (x : ℤ). nat_abs x ≤ 2 ^ 15) h
  pub line_long : length line ≡ sent_line_length
  pub line_small : Each (λ (x : ℤ). nat_abs x ≤ 2 ^ 4) line
  pub n_most : n ≤ sent_limit

-- a response twice, each time with 0 after it up to the greatest length
abbrev pub twice : List ℤ → List ℤ
twice h = values (λ i. get_or h (i % response_limit) (pos 0)) taps_length

-- the first and the second of them in turn
abbrev pub row : List ℤ → ℕ → List ℤ
row taps n = take response_limit (drop (response_limit * (n % 2)) taps)

abbrev pub row_sums : List ℤ → List ℤ → ℕ → List ℤ
row_sums taps line n = values (λ i. dot (row taps i) (window line response_limit i)) n

pub record RowsSummable (taps line : List ℤ) (n : ℕ) : Type 0 where
  pub taps_long : length taps ≡ taps_length
  pub taps_small : Each (λ (x : ℤ). nat_abs x ≤ 2 ^ 15) taps
  pub line_long : length line ≡ sent_line_length
  pub line_small : Each (λ (x : ℤ). nat_abs x ≤ 2 ^ 4) line
  pub n_most : n ≤ sent_limit

-- a row and as many symbols
pub record RowSummable (h v : List ℤ) : Type 0 where
  pub h_long : length h ≡ response_limit
  pub v_long : length v ≡ response_limit
  pub h_small : Each (λ (x : ℤ). nat_abs x ≤ 2 ^ 15) h
  pub v_small : Each (λ (x : ℤ). nat_abs x ≤ 2 ^ 4) v

-- ---- a sample

-- an s that has a gain
pub record Gainable (r : ℕ) (s : ℤ) : Type 0 where
  pub r_most : r ≤ symbol_limit
  pub has : has_gain r s ≡ true

-- the gain by the bit length of |s|
abbrev pub gain_of : ℕ → ℕ → ℕ
gain_of r bits = cond (leb bits r) gain_limit (data_unit + r - bits)

-- a float of 32 bits: its digits, and what its exponent has more than the bit length of a whole number
abbrev pub float_digits : ℕ
float_digits = 24

abbrev pub float_offset : ℕ
float_offset = 126

-- the bits of a whole number of no more digits as a float: its exponent, one less, and then its digits, the first of which adds one
abbrev pub magnitude_bits : ℕ → ℕ
magnitude_bits zero = 0
magnitude_bits (suc n) = (float_offset - 1 + bit_length (suc n)) * 2 ^ (float_digits - 1) + suc n * 2 ^ (float_digits - bit_length (suc n))

-- with its sign
abbrev pub float_bits : ℤ → ℕ
float_bits (pos n) = magnitude_bits n
float_bits (negsuc n) = 2 ^ 31 + magnitude_bits (suc n)

-- the exponent in them; 0 for 0
abbrev pub exponent_in : ℕ → ℕ
exponent_in b = b / 2 ^ (float_digits - 1) % 256

-- the first 15 of its digits
abbrev pub leading : ℤ → ℤ
leading s = rescale s (float_digits - bit_length (nat_abs s)) (float_digits - data_unit)

-- a sample and its gain in one word
abbrev pub gain_unit : ℕ
gain_unit = 65536

abbrev pub sample_word : ℕ → ℤ → ℕ
sample_word r s = of_z w16 (sample r s) + gain_unit * gain r s

abbrev pub sample_words : ℕ → List ℤ → List ℤ
sample_words r sums = map (λ s. pos (sample_word r s)) sums

-- ---- the trace

abbrev pub NotNegative : ℤ → Type 0
NotNegative w = w ≡ pos (nat_abs w)

-- the bytes of the word at n
abbrev pub word_bytes : List ℤ → ℕ → List ℕ
word_bytes words n = bytes 4 (nat_abs (get_or words n (pos 0)))

-- those of n words, each three places after the one before
unfoldable pub stored_words : List ℤ → List ℕ → ℕ → List ℕ
stored_words words out zero = out
stored_words words out (suc n) = sets (stored_words words out n) (3 * n) (word_bytes words n)

-- with the word of each sample
abbrev pub trace_bytes : Settings → List ℤ → ℕ → List ℤ → List ℕ
trace_bytes k symbols training words =
    trace_header k (length symbols / k.N)
    ++ (joined (λ n. take 3 (word_bytes words n)) (length words)
    ++ values (λ n. of_z w8 (cond (ltb n training) (get_or symbols n (pos 0)) (pos 0))) (length symbols))

pub record Puttable (k : Settings) (symbols : List ℤ) (training : ℕ) (words : List ℤ) (out : List ℕ) : Type 0 where
  pub N_least : 1 ≤ k.N
  pub some : 1 ≤ length symbols
  pub few : length symbols ≤ sent_limit
  pub training_most : training ≤ length symbols
  pub same_length : length words ≡ length symbols
  pub not_negative : Each NotNegative words
  pub room : length out ≡ trace_header_length + 4 * length symbols

-- ---- a cable whose settings and lists fit

pub record Makeable (c : Cable) (room : ℕ) : Type 0 where
  pub settings : settings_number c.settings ≡ 0
  pub lists : list_cause c room ≡ 0
