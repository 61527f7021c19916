-- A cable on paper: a response, the symbols that are sent over it, and the trace that a station receives.
use Rattle.std.specs.Prelude.{Bool, ◌&&◌, cond, List, ℕ, zero, suc, ◌+◌, ◌*◌, ◌-◌, ◌/◌, ◌%◌, ◌^◌, leb, ltb, eqb, length, get_or, ℤ, pos, nat_abs}
use Rattle.laws.specs.Lists.{all}
use Rattle.laws.specs.Sums.{dot}
use Rattle.laws.specs.Values.{values}
use Rattle.numbers.specs.Cut.{rescale}
use Rattle.steps.specs.Limits.{data_unit, gain_limit}
use Rattle.steps.specs.Settings.{Settings, is_symbol}
use Rattle.trace_layout.specs.Trace.{trace_header_length, trace_limit, trace_of}
use Rattle.state.specs.Sizes.{settings_number}
use Rattle.cable_trace.specs.Limits.{response_limit, count_limit}

-- what is given: the settings, the response h in units of 1/32768, the symbols, and how many of them are training entries
pub record Cable : Type 0 where
  pub settings : Settings
  pub response : List ℤ
  pub symbols : List ℤ
  pub training : ℕ

-- ---- one symbol

-- the symbol that was sent j before that at place n; those before the first are 0
abbrev pub sent_before : List ℤ → ℕ → ℕ → ℤ
sent_before symbols n j = cond (leb j n) (get_or symbols (n - j) (pos 0)) (pos 0)

-- s: the sum of h times the present and past symbols, the first h with the present one
unfoldable pub s : Cable → ℕ → ℤ
s c n = dot c.response (values (sent_before c.symbols n) (length c.response))

-- |s|·2^g < 2^(15+r)
abbrev pub takes_gain : ℕ → ℤ → ℕ → Bool
takes_gain r s g = ltb (nat_abs s * 2 ^ g) (2 ^ (data_unit + r))

-- the greatest of the numbers from g down to 0 that passes a test, or 0
unfoldable pub greatest : (ℕ → Bool) → ℕ → ℕ
greatest test zero = zero
greatest test (suc g) = cond (test (suc g)) (suc g) (greatest test g)

-- the gain: the largest g from 0 to 15 with |s|·2^g < 2^(15+r)
unfoldable pub gain : ℕ → ℤ → ℕ
gain r s = greatest (takes_gain r s) gain_limit

-- whether there is one
abbrev pub has_gain : ℕ → ℤ → Bool
has_gain r s = takes_gain r s (gain r s)

-- m = T(s·2^(g−r))
unfoldable pub sample : ℕ → ℤ → ℤ
sample r s = rescale s (gain r s) r

-- the training entry: the symbol itself, or 0 after the training
abbrev pub entry : Cable → ℕ → ℤ
entry c n = cond (ltb n c.training) (get_or c.symbols n (pos 0)) (pos 0)

-- ---- the trace

abbrev pub sample_count : Cable → ℕ
sample_count c = length c.symbols

-- whole blocks of N
abbrev pub block_count : Cable → ℕ
block_count c = sample_count c / c.settings.N

abbrev pub trace_length : Cable → ℕ
trace_length c = trace_header_length + 4 * sample_count c

-- its samples, gains and training entries in the trace layout
unfoldable pub cable_trace : Cable → List ℕ
cable_trace c =
    let r = c.settings.r in
    trace_of c.settings (block_count c) (λ n. sample r (s c n)) (λ n. gain r (s c n)) (entry c) (sample_count c)

-- ---- what is turned down

-- 1 to 32 values of a response
abbrev pub response_fits : ℕ → Bool
response_fits k = leb 1 k && leb k response_limit

-- 1 to 65,535 whole blocks of N
abbrev pub blocks_fit : ℕ → ℕ → Bool
blocks_fit N n = eqb (n % N) 0 && leb 1 (n / N) && leb (n / N) count_limit

-- there is a gain, and it is not below L
abbrev pub gain_available : Settings → ℤ → Bool
gain_available k s = has_gain k.r s && leb k.L (gain k.r s)

-- the cause of a 10, the first in this order, or 0. 1 to 4: the response, the blocks, the training count, the length of the trace
unfoldable pub length_cause : Cable → ℕ
length_cause c =
    cond (response_fits (length c.response))
    (cond (blocks_fit c.settings.N (sample_count c)) (cond (leb c.training (sample_count c)) (cond (leb (trace_length c) trace_limit) 0 4) 3) 2)
    1

-- 5 and 6: an entry that is no symbol, an output of another length
unfoldable pub list_cause : Cable → ℕ → ℕ
list_cause c room =
    cond (eqb (length_cause c) 0) (cond (all (is_symbol c.settings.r) c.symbols) (cond (eqb room (trace_length c)) 0 6) 5) (length_cause c)

-- 7: a gain
unfoldable pub cause : Cable → ℕ → ℕ
cause c room =
    cond (eqb (list_cause c room) 0) (cond (all (gain_available c.settings) (values (s c) (sample_count c))) 0 7) (list_cause c room)

-- what the simulator answers for an output of `room` bytes: 1 and 2 of set-up, then 10, or 0
unfoldable pub cable_number : Cable → ℕ → ℕ
cable_number c room = cond (eqb (settings_number c.settings) 0) (cond (eqb (cause c room) 0) 0 10) (settings_number c.settings)
