-- A cable in bytes: a header, 2 bytes for each value of the response, one for each symbol. What the program `cable` writes for it: a trace, or a line.
use Rattle.std.specs.Prelude.{Bool, ◌&&◌, cond, List, ℕ, ◌+◌, ◌*◌, leb, eqb, length}
use Rattle.std.specs.Int.{w8, w16}
use Rattle.std.proofs.Common.{to_z}
use Rattle.laws.specs.Values.{values}
use Rattle.words.specs.Words.{byte_at, number_at}
use Rattle.trace_layout.specs.Trace.{settings_in}
use Rattle.cable_trace.specs.Cable.{Cable, trace_length, cable_trace, cause, cable_number}
use Rattle.description.specs.Texts.{text}

-- bytes of a header, and the most of a description
abbrev pub description_header_length : ℕ
description_header_length = 20

abbrev pub description_limit : ℕ
description_limit = 65536

-- p, q, N, r, L, a 0 byte, the values of the response, M, the symbols, and how many of these are training entries
abbrev pub response_in : List ℕ → ℕ
response_in t = number_at 2 t 6

abbrev pub symbols_in : List ℕ → ℕ
symbols_in t = number_at 4 t 12

abbrev pub training_in : List ℕ → ℕ
training_in t = number_at 4 t 16

-- where the symbols begin, and where the description ends
abbrev pub symbols_place : List ℕ → ℕ
symbols_place t = description_header_length + 2 * response_in t

abbrev pub description_end : List ℕ → ℕ
description_end t = symbols_place t + symbols_in t

-- 8: the length is wrong or too large, or byte 5 is not 0
unfoldable pub well_described : List ℕ → Bool
well_described t = leb description_header_length (length t) && leb (length t) description_limit && eqb (length t) (description_end t) && eqb (byte_at t 5) 0

unfoldable pub cable_in : List ℕ → Cable
cable_in t = record {
  settings = settings_in t;
  response = values (λ i. to_z w16 (number_at 2 t (description_header_length + 2 * i))) (response_in t);
  symbols = values (λ i. to_z w8 (byte_at t (symbols_place t + i))) (symbols_in t);
  training = training_in t;
}

-- ---- the line of a refusal

unfoldable pub malformed_line : List ℕ
malformed_line = text "cable: 8, the description has a wrong length or its byte 5 is not 0\n"

-- by the cause of a 10
unfoldable pub cause_line : ℕ → List ℕ
cause_line cause =
    cond (eqb cause 1) (text "cable: 10, the response is empty or longer than 32\n")
    (cond (eqb cause 2) (text "cable: 10, the symbols are not 1 to 65535 whole blocks of N\n")
    (cond (eqb cause 3) (text "cable: 10, there are more training entries than symbols\n")
    (cond (eqb cause 4) (text "cable: 10, the trace would be longer than 65536 bytes\n")
    (cond (eqb cause 5) (text "cable: 10, an entry is not a symbol\n")
    (text "cable: 10, some gain would be below L or does not exist\n")))))

-- by the number
unfoldable pub refusal_line : ℕ → ℕ → List ℕ
refusal_line number cause =
    cond (eqb number 1) (text "cable: 1, a size is outside its limits\n") (cond (eqb number 2) (text "cable: 2, M is not admitted with these sizes\n") (cause_line cause))

-- ---- what is written

-- the trace, in an output that is as long, or the line
unfoldable pub cable_output : Cable → List ℕ
cable_output c = cond (eqb (cable_number c (trace_length c)) 0) (cable_trace c) (refusal_line (cable_number c (trace_length c)) (cause c (trace_length c)))

unfoldable pub described : List ℕ → List ℕ
described t = cond (well_described t) (cable_output (cable_in t)) malformed_line
