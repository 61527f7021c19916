-- s of each symbol, and the trace that is made of them.
use mathlib.Core.Path.{◌≡◌, refl, ap, ap₂, ◌∙◌}
use mathlib.Core.Bool.{true}
use mathlib.Core.List.{List, ◌++◌}
use Prim.Native.Nat.{ℕ, ◌+◌, ◌^◌, ◌≤◌, ◌<◌}
use native.Mathlib.Omega.{arith}
use lib.ListN.{length, get_or, take, length-map}
use lib.IntN.{ℤ, pos, nat_abs}
use mir.Syntax.{w16}
use mir.Val.{of_z}
use mir.Facts.{Fits-of_z}
use Rattle.laws.specs.Lists.{all, map_at}
use Rattle.laws.specs.Machine.{fits_abs}
use Rattle.laws.specs.Powers.{rises}
use Rattle.laws.specs.Sums.{Each, each_at, each_of, dot}
use Rattle.laws.specs.Tests.{each_tested}
use Rattle.laws.specs.Values.{values_length, values_at, values, values_same, joined, joined_same}
use Rattle.words.specs.Words.{bytes}
use Rattle.steps.specs.Limits.{symbol_limit}
use Rattle.steps.specs.Settings.{is_symbol}
use Rattle.steps.proofs.SymbolLaws.{symbol_below}
use Rattle.trace_layout.specs.Trace.{trace_header, sample_bytes, entry_part}
use Rattle.trace_layout.proofs.WriteLaws.{trace_parts}
use Rattle.checks.specs.Calls.{Sampled}
use Rattle.cable_trace.specs.Limits.{response_limit}
use Rattle.cable_trace.specs.Calls.{sent_limit, placed, line_of, sums, LineSummable, Gainable, sample_word, sample_words, NotNegative, word_bytes, trace_bytes, sent_line_length}
use Rattle.cable_trace.specs.Cable.{Cable, s, gain, sample, entry, sample_count, block_count, cable_trace}
use Rattle.cable_trace.proofs.LineLaws.{line_small, window_is}
use Rattle.cable_trace.proofs.GainLaws.{gain_most, sample_small}
use Rattle.cable_trace.proofs.PutLaws.{word_is}

pub symbols_small : (r : ℕ) (l : List ℤ) → r ≤ symbol_limit → all (is_symbol r) l ≡ true → Each (λ (x : ℤ). nat_abs x ≤ 2 ^ 4) l
symbols_small r l h e =
    each_tested (is_symbol r) _ (λ v f. omega (arith, symbol_below r v f, rises {a = r + 1} {b = 4} (omega arith))) l e

module _ (c : Cable) (few : sample_count c ≤ sent_limit) (response : length c.response ≤ response_limit) where
  pub sums_are : sums c.response (line_of c.symbols) (sample_count c) ≡ values (s c) (sample_count c)
  unfolding s
  sums_are =
      values_same (pos 0) _ (s c) (sample_count c)
      (λ n h. ap (dot c.response) (window_is c.symbols (length c.response) n response (omega arith)))

  pub line_summable : c.settings.r ≤ symbol_limit → all (is_symbol c.settings.r) c.symbols ≡ true → Sampled c.response → LineSummable c.response (line_of c.symbols) (sample_count c)
  line_summable h e m = record {
    few = response;
    h_small = m;
    line_long = values_length (placed c.symbols) sent_line_length;
    line_small = line_small (λ (x : ℤ). nat_abs x ≤ 2 ^ 4) c.symbols (symbols_small c.settings.r c.symbols h e) (omega arith);
    n_most = few;
  }

-- ---- the trace

pub words_whole : (r : ℕ) (sums : List ℤ) → Each NotNegative (sample_words r sums)
words_whole r sums =
    each_of NotNegative (pos 0) (sample_words r sums)
    (λ i h. rw (map_at (λ (x : ℤ). pos (sample_word r x)) sums i (pos 0) (pos 0) (omega (arith, length-map sums (λ (x : ℤ). pos (sample_word r x))))) refl)

sample_word_lem : (r : ℕ) (s : ℤ) → Gainable r s → take 3 (bytes 4 (sample_word r s)) ≡ sample_bytes (sample r s) (gain r s)
sample_word_lem r s h =
    word_is (of_z w16 (sample r s)) (gain r s) (Fits-of_z (fits_abs {w = w16} (sample r s) (sample_small r s h.has))).fits (omega (arith, gain_most r s))

pub trace_is : (c : Cable) (words : List ℤ) → words ≡ sample_words c.settings.r (values (s c) (sample_count c)) → Each (Gainable c.settings.r) (values (s c) (sample_count c)) →
    trace_bytes c.settings c.symbols c.training words ≡ cable_trace c
unfolding cable_trace
trace_is c words e gains =
    ap (λ (b : List ℕ). trace_header c.settings (block_count c) ++ (b ++ entry_part (entry c) (sample_count c)))
    (ap₂ (λ (x : List ℤ) (n : ℕ). joined (λ i. take 3 (word_bytes x i)) n) e (ap length e ∙ length-map sums _ ∙ values_length (s c) (sample_count c))
    ∙ joined_same (λ i. take 3 (word_bytes (sample_words r sums) i)) (λ i. sample_bytes (sample r (s c i)) (gain r (s c i))) (sample_count c) at)
    ∙ trace_parts c.settings (block_count c) (λ n. sample r (s c n)) (λ n. gain r (s c n)) (entry c) (sample_count c)
  where
    r : ℕ
    r = c.settings.r

    sums : List ℤ
    sums = values (s c) (sample_count c)

    at : (i : ℕ) → i < sample_count c → take 3 (word_bytes (sample_words r sums) i) ≡ sample_bytes (sample r (s c i)) (gain r (s c i))
    at i h =
        let l : i < length sums = omega (arith, values_length (s c) (sample_count c)) in
        let g = each_at (Gainable r) sums i (pos 0) gains l in
        ap (λ (w : ℤ). take 3 (bytes 4 (nat_abs w))) (map_at (λ (x : ℤ). pos (sample_word r x)) sums i (pos 0) (pos 0) l)
        ∙ sample_word_lem r (get_or sums i (pos 0)) g ∙ ap (λ (z : ℤ). sample_bytes (sample r z) (gain r z)) (values_at (s c) (pos 0) (sample_count c) i h)
