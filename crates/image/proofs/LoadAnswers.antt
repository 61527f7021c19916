-- What loading answers, from the number of the bytes and the number of the state.
use mathlib.Core.Path.{◌≡◌, sym, ap, ◌∙◌}
use mathlib.Core.List.{List}
use Prim.Native.Nat.{ℕ}
use borrow.Author.Tests.{eq-eqb, ne_eqb}
use Rattle.state.specs.State.{refused}
use Rattle.state.specs.Answers.{examined}
use Rattle.image.specs.Load.{state_in, frame_number, load_number, load_state, Load}
use Rattle.state.specs.declared.equaliser.Equaliser.{Equaliser}

module _ (l : List ℕ) where
  number_frame : (frame_number l ≡ 0 → ⊥) → load_number l ≡ frame_number l
  unfolding load_number
  number_frame h = rw (ne_eqb (frame_number l) 0 h)

  number_state : frame_number l ≡ 0 → load_number l ≡ examined (state_in l)
  unfolding load_number
  number_state h = rw (eq-eqb (frame_number l) 0 h)

  pub state_refused : (load_number l ≡ 0 → ⊥) → load_state l ≡ refused
  unfolding load_state
  state_refused h = rw (ne_eqb (load_number l) 0 h)

  state_loaded : load_number l ≡ 0 → load_state l ≡ state_in l
  unfolding load_state
  state_loaded h = rw (eq-eqb (load_number l) 0 h)

  module _ (n : ℕ) (s : Equaliser) (e : n ≡ load_number l) where
    answer_refused : (n ≡ 0 → ⊥) → s ≡ refused → Load l (record { number = n; state = s })
    answer_refused z f = record { number = e; state = f ∙ sym (state_refused (λ q. z (e ∙ q))) }

    answer_state : n ≡ 0 → s ≡ state_in l → Load l (record { number = 0; state = s })
    answer_state z f = record { number = sym z ∙ e; state = f ∙ sym (state_loaded (sym e ∙ z)) }

  module _ (f : ℕ) (g : f ≡ frame_number l) where
    pub load_frame : (s : Equaliser) → (f ≡ 0 → ⊥) → s ≡ refused → Load l (record { number = f; state = s })
    load_frame s z t = answer_refused f s (g ∙ sym (number_frame (λ q. z (g ∙ q)))) z t

    module _ (z : f ≡ 0) (x : Equaliser) (m : x ≡ state_in l) (n : ℕ) (e : n ≡ examined x) where
      number_examined : n ≡ load_number l
      number_examined = e ∙ ap examined m ∙ sym (number_state (sym g ∙ z))

      pub load_refused : (s : Equaliser) → (n ≡ 0 → ⊥) → s ≡ refused → Load l (record { number = n; state = s })
      load_refused s h t = answer_refused n s number_examined h t

      pub load_done : n ≡ 0 → Load l (record { number = 0; state = x })
      load_done h = answer_state n x number_examined h m
