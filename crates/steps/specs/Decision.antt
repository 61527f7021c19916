-- The decision (step 4).
use Rattle.std.specs.Prelude.{cond, ℕ, ◌+◌, ◌-◌, ◌^◌, ℤ, pos, neg_ℤ, ◌+ℤ◌, ◌*ℤ◌}
use Rattle.std.specs.Int.Signed.{lt_z, shr_z}
use Rattle.steps.specs.Limits.{output_unit}

-- ⌊z / 2^k⌋
abbrev pub floor : ℤ → ℕ → ℤ
floor z k = shr_z z (2 ^ k)

-- brought to the nearest of the ends −top and top, if beyond it
abbrev pub clip : ℤ → ℤ → ℤ
clip top d = cond (lt_z top d) top (cond (lt_z d (neg_ℤ top)) (neg_ℤ top) d)

-- the greatest symbol
abbrev pub top_symbol : ℕ → ℤ
top_symbol r = pos (2 ^ (r + 1) - 1)

-- 2·⌊y/2⌋ + 1, where y = Y·2^(ξ − output_unit), brought to the ends
unfoldable pub decide : ℕ → ℤ → ℕ → ℤ
decide r Y ξ = clip (top_symbol r) (pos 2 *ℤ floor Y (output_unit + 1 - ξ) +ℤ pos 1)
