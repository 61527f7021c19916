-- The limits of the cable.
use Rattle.std.specs.Prelude.{ℕ}

-- values of a response
abbrev pub response_limit : ℕ
response_limit = 32

-- blocks of a trace
abbrev pub count_limit : ℕ
count_limit = 65535
