-- T: a cut to a whole number toward zero.
use Rattle.std.specs.Prelude.{ℕ, suc, ◌/◌, ◌^◌, ℤ, pos, negsuc, neg_ℤ, ◌*ℤ◌}

-- T(z / 2^k)
unfoldable pub cut : ℤ → ℕ → ℤ
cut (pos n) k = pos (n / 2 ^ k)
cut (negsuc n) k = neg_ℤ (pos (suc n / 2 ^ k))

-- z·2^k
abbrev pub raise : ℤ → ℕ → ℤ
raise z k = z *ℤ pos (2 ^ k)

-- T(z·2^(i−j)), whichever of i and j is the larger
abbrev pub rescale : ℤ → ℕ → ℕ → ℤ
rescale z i j = cut (raise z i) j
