-- What set-up answers, from the number of the settings.
use mathlib.Core.Path.{◌≡◌, sym, ap, ◌∙◌}
use mathlib.Core.Bool.{Bool, true, false, cond}
use Prim.Native.Nat.{ℕ, ◌-◌}
use lib.Dec.{eqb}
use borrow.Author.Tests.{eq-eqb, ne_eqb}
use Rattle.laws.specs.Negated.{take_zeros}
use Rattle.steps.specs.Limits.{slots}
use Rattle.steps.specs.Settings.{Settings}
use Rattle.block.specs.Swapped.{swapped}
use Rattle.state.specs.Sizes.{settings_number}
use Rattle.state.specs.State.{memory, fresh, refused_settings, refused}
use Rattle.state.specs.Answers.{set_up_state, SetUp}
use Rattle.state.specs.declared.equaliser.Equaliser.{Equaliser}

module _ (k : Settings) (n : ℕ) (s : Equaliser) (e : n ≡ settings_number k) where
  pub set_up_fresh : n ≡ 0 → s ≡ fresh k → SetUp k (record { number = 0; state = s })
  set_up_fresh z f =
      record { number = sym z ∙ e; state = f ∙ sym (ap (λ (b : Bool). cond b (fresh k) refused) (eq-eqb (settings_number k) 0 (sym e ∙ z))) }

  pub set_up_refused : (n ≡ 0 → ⊥) → s ≡ refused → SetUp k (record { number = n; state = s })
  set_up_refused z f =
      record { number = e; state = f ∙ sym (ap (λ (b : Bool). cond b (fresh k) refused) (ne_eqb (settings_number k) 0 (λ q. z (e ∙ q)))) }

-- ---- the two conductors swapped: a fresh memory is the same

fresh_swapped : (k : Settings) → memory (fresh k) ≡ swapped (memory (fresh k))
unfolding fresh
fresh_swapped k = rw (← take_zeros k.p slots, ← take_zeros (k.p - 1) slots)

pub set_up_swapped : (k : Settings) → memory (set_up_state k) ≡ swapped (memory (set_up_state k))
unfolding refused
set_up_swapped k = go (eqb (settings_number k) 0)
  where
    go : (b : Bool) → memory (cond b (fresh k) refused) ≡ swapped (memory (cond b (fresh k) refused))
    go true = fresh_swapped k
    go false = fresh_swapped refused_settings
