-- The state of a station, in the image's order, and when it is sound.
use Rattle.std.specs.Prelude.{Bool, ◌&&◌, List, ◌∷◌, ◌++◌, ℕ, ◌+◌, ◌-◌, ◌*◌, ◌^◌, leb, ltb, eqb, length, take, drop, get_or, replicate, ℤ, pos, nat_abs}
use Rattle.laws.specs.Lists.{all}
use Rattle.steps.specs.Limits.{data_unit, exponent_limit, length_limit, slots}
use Rattle.steps.specs.Settings.{Settings, given, scale_forward, is_entry}
use Rattle.steps.specs.Fir.{all_small}
use Rattle.block.specs.Block.{Memory}
use Rattle.state.specs.declared.equaliser.Equaliser.{Equaliser}

-- ---- the parts of a state

abbrev pub settings : Equaliser → Settings
settings e = record { p = e.p; q = e.q; N = e.n; r = e.r; L = e.l; M = e.m }

abbrev pub taps : Equaliser → ℕ
taps e = e.p + e.q

-- weights: p feed forward, then q feedback
abbrev pub forward : Equaliser → List ℤ
forward e = take e.p e.weights

abbrev pub back : Equaliser → List ℤ
back e = take e.q (drop e.p e.weights)

-- data: the last p − 1 stored samples newest first, a 0, then q symbols newest first
abbrev pub samples : Equaliser → List ℤ
samples e = take (e.p - 1) e.past

abbrev pub filler : Equaliser → ℤ
filler e = get_or e.past (e.p - 1) (pos 0)

abbrev pub symbols : Equaliser → List ℤ
symbols e = take e.q (drop e.p e.past)

-- what the last block left
abbrev pub memory : Equaliser → Memory
memory e = record { forward = forward e; back = back e; samples = samples e; symbols = symbols e; ψ = e.psi; b = e.b; B = e.bmax }

-- ---- soundness

abbrev pub is_zero : ℤ → Bool
is_zero z = eqb (nat_abs z) 0

-- |A|·2^(B+S) < 2^(data_unit + b)
abbrev pub is_stored : ℕ → ℕ → ℕ → ℤ → Bool
is_stored s b B a = ltb (nat_abs a * 2 ^ (B + s)) (2 ^ (data_unit + b))

abbrev pub sound_exponents : Equaliser → Bool
sound_exponents e = leb e.psi exponent_limit && leb e.b e.bmax && leb (e.bmax + e.l) length_limit

abbrev pub sound_weights : Equaliser → Bool
sound_weights e = all_small (take (taps e) e.weights) && all is_zero (drop (taps e) e.weights)

abbrev pub sound_past : Equaliser → Bool
sound_past e =
    all (is_stored (scale_forward (settings e)) e.b e.bmax) (samples e) && is_zero (filler e) && all (is_entry e.r) (symbols e)
    && all is_zero (drop (taps e) e.past)

-- 9: exponents, weights and data are sound
unfoldable pub is_sound : Equaliser → Bool
is_sound e = sound_exponents e && sound_weights e && sound_past e

-- ---- states

-- a list at the front of the slots, zeros after it
abbrev pub padded : List ℤ → List ℤ
padded l = l ++ replicate (slots - length l) (pos 0)

-- the state with these settings and this memory
unfoldable pub state_of : Settings → Memory → Equaliser
state_of k o = record {
  p = k.p;
  q = k.q;
  n = k.N;
  r = k.r;
  l = k.L;
  psi = o.ψ;
  b = o.b;
  bmax = o.B;
  m = k.M;
  weights = padded (o.forward ++ o.back);
  past = padded (o.samples ++ pos 0 ∷ o.symbols);
}

-- weights, ψ, past samples and symbols, b and B of 0
unfoldable pub fresh : Settings → Equaliser
fresh k = record {
  p = k.p;
  q = k.q;
  n = k.N;
  r = k.r;
  l = k.L;
  psi = 0;
  b = 0;
  bmax = 0;
  m = k.M;
  weights = replicate slots (pos 0);
  past = replicate slots (pos 0);
}

-- the state of a refused set-up, and its settings
abbrev pub refused_settings : Settings
refused_settings = given 1 1 1 0 0 0

unfoldable pub refused : Equaliser
refused = fresh refused_settings
