-- What reading the lists of a block asks and promises.
use Rattle.std.specs.Prelude.{true, List, ◌≡◌, ℕ, ◌+◌, ◌≤◌, length, ℤ}
use Rattle.trace_layout.specs.Trace.{samples_in, well_formed, samples_from, gains_from, entries_from}

pub record Readable (t : List ℕ) (first : ℕ) (m : List ℤ) (gains : List ℕ) (entries : List ℤ) : Type 0 where
  pub well_formed_lem : well_formed t ≡ true
  pub gains_long : length gains ≡ length m
  pub entries_long : length entries ≡ length m
  pub within : first + length m ≤ samples_in t

pub record ReadIs (t : List ℕ) (first n : ℕ) (m : List ℤ) (gains : List ℕ) (entries : List ℤ) : Type 0 where
  pub m_is : m ≡ samples_from t first n
  pub gains_is : gains ≡ gains_from t first n
  pub entries_is : entries ≡ entries_from t first n
