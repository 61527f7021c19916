-- A text at the front of lent bytes; the rest of them is as it was.
use Rattle.std.specs.Prelude.{◌≡◌, List, ◌++◌, ℕ, length, drop}

-- a text at the front of lent bytes, and its length
pub record TextFront (text before : List ℕ) (count : ℕ) (after : List ℕ) : Type 0 where
  pub text_length : count ≡ length text
  pub contents : after ≡ text ++ drop (length text) before
