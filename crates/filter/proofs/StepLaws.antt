-- The functions of a sample, put together: each promise as the definition that it meets.
use mathlib.Core.Path.{◌≡◌, sym, ap, ap₂, ◌∙◌}
use mathlib.Core.List.{List, ◌∷◌}
use Prim.Native.Nat.{ℕ, ◌+◌, ◌-◌, ◌^◌, ◌≤◌, ◌<◌}
use native.Mathlib.Omega.{arith}
use native.Mathlib.Nat.{add-zero}
use lib.IntN.{ℤ, nat_abs}
use lib.ListN.{length, drop, set}
use lib.Seq.{set_split}
use mir.Syntax.{w16, w32}
use mir.Val.{to_z, of_z}
use mir.Facts.{to_z-of_z}
use Rattle.laws.specs.Machine.{fits_abs}
use Rattle.laws.specs.Sums.{dot}
use Rattle.numbers.specs.Cut.{raise}
use Rattle.numbers.proofs.CutLaws.{raise_abs}
use Rattle.steps.specs.Limits.{data_unit, received_unit, symbol_limit, output_exponent_limit}
use Rattle.steps.specs.Settings.{Settings, scale_forward, scale_back}
use Rattle.steps.specs.Fir.{Fir, largest_bits}
use Rattle.filter.specs.Sample.{FilterState, ν, F, H, Y, ξ, decision, v, κ, Z, θ, J, forward_fir, back_fir, new_forward, new_back, outcome, next}
use Rattle.steps.specs.Sound.{Adaptable}
use Rattle.filter.specs.Calls.{LargestBitsAt, SymbolBounds, FilterBounds, OutputIs, DecisionBounds, DecisionIs, UpdateBounds, ChangeBounds, ChangedIs, Ready, SampleResultIs, result_of, updated_forward, updated_back}
use Rattle.filter.specs.declared.sample.BlockExponents.{BlockExponents}
use Rattle.filter.specs.declared.sample.Output.{Output}
use Rattle.filter.specs.declared.sample.Decision.{Decision}
use Rattle.filter.specs.declared.sample.SampleResult.{SampleResult}
use Rattle.steps.proofs.SymbolLaws.{entry_below}
use Rattle.steps.proofs.DecisionLaws.{symbol_most}
use Rattle.filter.proofs.FirBounds.{FirFit}
use Rattle.filter.proofs.SampleFirs as S
use Rattle.filter.proofs.SampleBounds as B
use Rattle.filter.proofs.DecisionSize.{decision_most}
use Rattle.filter.proofs.SampleLaws.{normalised_of, first_place}

module _ {k : Settings} {x : BlockExponents} {t : FilterState} {entry : ℤ} (r : Ready k x t entry) where
  abbrev Γ : ℕ
  Γ = x.gamma30

  -- ---- steps 1 to 3

  ν_of : x.sb + largest_bits t.symbols ≡ ν k Γ t entry
  unfolding ν
  ν_of = ap (λ (n : ℕ). n + largest_bits t.symbols) r.back_scale

  held : raise (dot t.back t.symbols) (data_unit - (x.sb + largest_bits t.symbols)) ≡ H k Γ t entry
  held = ap (λ (n : ℕ). raise (dot t.back t.symbols) (data_unit - n)) ν_of ∙ sym (S.H_raised k Γ t entry r.fit)

  pub symbol_bounds : {delay : ℕ} → LargestBitsAt k.r delay t.symbols → SymbolBounds k.r delay t.symbols
  symbol_bounds h = record { r_most = r.fit.within.r_most; symbols_are = r.fit.symbols_are; largest_bits_at = h }

  pub filter_bounds : FilterBounds x t.ψ t.forward t.back t.samples t.symbols
  unfolding F
  filter_bounds = record {
    forward_sum = B.forward_summable k Γ t entry r.fit;
    back_sum = B.back_summable k Γ t entry r.fit;
    ν_most = rw ν_of (S.ν_most k Γ t entry r.fit);
    output_bounds = rw ν_of (record {
      f_small = B.F_small k Γ t entry r.fit;
      h_small = rw (← raise_abs, ← S.H_raised k Γ t entry r.fit) (B.H_small k Γ t entry r.fit);
      ψ_most = r.fit.ψ_most;
      ν_most = S.ν_most k Γ t entry r.fit;
      Γ_most = omega (arith, r.fit.Γ_most, r.fit.within.r_most, S.scale_forward_most k Γ t entry r.fit);
    });
  }

  -- for a list that has the symbols
  pub bounds : {n delay : ℕ} {y : List ℤ} → n ≡ k.r → LargestBitsAt k.r delay t.symbols → y ≡ t.symbols → FilterBounds x t.ψ t.forward t.back t.samples y × SymbolBounds n delay y
  bounds d h e = rw (d, e) (filter_bounds, symbol_bounds h)

  pub record OutputAs (h : Output) : Type 0 where
    pub nu_as : h.nu ≡ ν k Γ t entry
    pub y_as : h.y ≡ Y k Γ t entry
    pub xi_as : h.xi ≡ ξ k Γ t entry

  pub output_as : (h : Output) → OutputIs x t.ψ t.forward t.back t.samples t.symbols h → OutputAs h
  unfolding Y ξ F
  output_as h p = record {
    nu_as = p.nu ∙ ν_of;
    y_as = p.y ∙ rw (held, ν_of);
    xi_as = p.xi ∙ rw ν_of;
  }

  output_of : {h : Output} {y : List ℤ} → y ≡ t.symbols → OutputIs x t.ψ t.forward t.back t.samples y h → OutputAs h
  output_of {h = h} e p = output_as h (rw e at p)

  -- ---- steps 4 and 5

  pub decision_bounds : (h : Output) → OutputAs h → DecisionBounds k.r x.sb h.y h.xi entry
  decision_bounds h p = record {
    r_most = r.fit.within.r_most;
    scale_least = rw r.back_scale (S.scale_back_least k Γ t entry r.fit);
    scale_most = rw r.back_scale (S.scale_back_most k Γ t entry r.fit);
    y_small = rw p.y_as (B.Y_small k Γ t entry r.fit);
    ξ_least = rw p.xi_as (S.ξ_least k Γ t entry r.fit);
    ξ_most = rw p.xi_as (omega (arith, S.ξ_most k Γ t entry r.fit, r.fit.ψ_most));
    entry_is = r.entry_is;
  }

  pub record DecisionAs (j : Decision) : Type 0 where
    pub decision_as : j.decision ≡ decision k Γ t entry
    pub v_as : j.v ≡ v k Γ t entry
    pub z_as : j.z ≡ Z k Γ t entry
    pub theta_as : j.theta ≡ θ k Γ t entry

  pub decision_as : (h : Output) (j : Decision) → OutputAs h → DecisionIs k.r x.sb h.y h.xi entry j → DecisionAs j
  unfolding decision v κ Z θ
  decision_as h j p q = record {
    decision_as = q.decision ∙ rw (p.y_as, p.xi_as);
    v_as = q.v ∙ rw (p.y_as, p.xi_as);
    z_as = q.z ∙ rw (p.y_as, p.xi_as, r.back_scale);
    theta_as = q.theta ∙ rw (p.y_as, p.xi_as, r.back_scale);
  }

  y_kept : {h : Output} → OutputAs h → to_z w32 (of_z w32 h.y) ≡ h.y
  y_kept {h} p = to_z-of_z {w = w32} (fits_abs h.y (rw p.y_as (omega (arith, B.Y_small k Γ t entry r.fit))))

  -- a symbol, or 0, fits its width
  symbol_fits : (n : ℤ) → nat_abs n < 2 ^ (k.r + 1) → to_z w16 (of_z w16 n) ≡ n
  symbol_fits n l = to_z-of_z {w = w16} (fits_abs n (omega (arith, l, symbol_most k.r r.fit.within.r_most)))

  entry_kept : to_z w16 (of_z w16 entry) ≡ entry
  entry_kept = symbol_fits entry (entry_below k.r entry r.entry_is)

  -- of what the registers hold
  pub decision_bounds_of : {h : Output} {n : ℕ} {y : List ℤ} → n ≡ k.r → y ≡ t.symbols → OutputIs x t.ψ t.forward t.back t.samples y h →
      DecisionBounds n x.sb (to_z w32 (of_z w32 h.y)) h.xi (to_z w16 (of_z w16 entry))
  decision_bounds_of {h = h} d e given = let p = output_of e given in rw (d, y_kept p, entry_kept) (decision_bounds h p)

  -- what steps 1 to 5 give
  pub record Decided (h : Output) (j : Decision) : Type 0 where
    pub output : OutputAs h
    pub decision : DecisionAs j

  pub decided : {h : Output} {j : Decision} {n : ℕ} {y : List ℤ} → n ≡ k.r → y ≡ t.symbols → OutputIs x t.ψ t.forward t.back t.samples y h →
      DecisionIs n x.sb (to_z w32 (of_z w32 h.y)) h.xi (to_z w16 (of_z w16 entry)) j → Decided h j
  decided {h = h} {j = j} d e given q =
      let p = output_of e given in
      record { output = p; decision = decision_as h j p (rw (d, y_kept p, entry_kept) at q) }

  -- ---- steps 6 to 8

  update_bounds : {n : ℕ} (f : Fir) → FirFit k.r n f → (more : ℕ) → f.scale + more ≤ data_unit → (w a : List ℤ) → Adaptable (J k Γ t entry f) (data_unit - (f.scale + more)) w a →
      UpdateBounds k.M (Z k Γ t entry) t.ψ (θ k Γ t entry) f.scale f.exponent more w a
  unfolding J
  update_bounds f fit more l w a h = record {
    z_small = B.Z_small k Γ t entry r.fit r.entry_is;
    ψ_most = r.fit.ψ_most;
    room = l;
    shift = omega (arith, B.shift k Γ t entry r.fit r.entry_is f fit);
    shift_most = omega (arith, B.shift_below k Γ t entry r.fit r.entry_is f fit);
    adaptable = h;
  }

  ahead : UpdateBounds k.M (Z k Γ t entry) t.ψ (θ k Γ t entry) (scale_forward k) Γ 0 t.forward t.samples
  ahead =
      update_bounds (forward_fir k Γ t entry) (S.forward_fit k Γ t entry r.fit) 0 (omega (arith, S.scale_forward_most k Γ t entry r.fit)) t.forward t.samples
      (rw add-zero (B.forward_adaptable k Γ t entry r.fit r.entry_is))

  behind : UpdateBounds k.M (Z k Γ t entry) t.ψ (θ k Γ t entry) (scale_back k) (ν k Γ t entry + received_unit) (data_unit - ν k Γ t entry) t.back t.symbols
  behind =
      update_bounds (back_fir k Γ t entry) (S.back_fit k Γ t entry r.fit) (data_unit - ν k Γ t entry) (S.symbol_scale_most k Γ t entry r.fit) t.back t.symbols
      (B.back_adaptable k Γ t entry r.fit r.entry_is)

  pub change_bounds : (h : Output) (j : Decision) → OutputAs h → DecisionAs j → ChangeBounds k.M x t.ψ h j t.forward t.back t.samples t.symbols
  change_bounds h j p q = record {
    ν_most = rw p.nu_as (S.ν_most k Γ t entry r.fit);
    ahead = rw (q.z_as, q.theta_as, r.forward_scale) ahead;
    behind = rw (q.z_as, q.theta_as, p.nu_as, r.back_scale) behind;
  }

  pub handable : (h : Output) (j : Decision) → OutputAs h → DecisionAs j → (h.xi ≤ output_exponent_limit) × (j.theta ≤ output_exponent_limit) × (nat_abs j.decision < 2 ^ (symbol_limit + 1))
  handable h j p q = (
    rw p.xi_as (omega (arith, S.ξ_most k Γ t entry r.fit, r.fit.ψ_most)),
    rw q.theta_as (omega (arith, S.θ_most k Γ t entry r.fit r.entry_is, r.fit.ψ_most)),
    rw q.decision_as (decision_most k Γ t entry r.fit.within.r_most),
  )

  forward_updated : (j : Decision) → DecisionAs j → updated_forward k.M x t.ψ j t.forward t.samples ≡ new_forward k Γ t entry
  unfolding new_forward J
  forward_updated j q = rw (q.z_as, q.theta_as, r.forward_scale, add-zero)

  back_updated : (h : Output) (j : Decision) → OutputAs h → DecisionAs j → updated_back k.M x h.nu t.ψ j t.back t.symbols ≡ new_back k Γ t entry
  unfolding J
  back_updated h j p q = rw (q.z_as, q.theta_as, p.nu_as, r.back_scale) (sym (S.new_back_raised k Γ t entry r.fit))

  pub result_as : (h : Output) (j : Decision) → OutputAs h → DecisionAs j → (ψ' : ℕ) (f' b' y y' : List ℤ) →
      ChangedIs k.M x t.ψ h j t.forward t.back t.samples y ψ' f' b' → y ≡ t.symbols → y' ≡ j.v ∷ t.symbols → (z : SampleResult) → z ≡ result_of h j ψ' →
      SampleResultIs k Γ t entry z f' b' y'
  unfolding next outcome
  result_as h j p q ψ' f' b' y y' c l d o e =
      let behind = ap (updated_back k.M x h.nu t.ψ j t.back) l ∙ back_updated h j p q in
      let w = normalised_of (forward_updated j q) behind c in
      record {
        y = ap (λ (z : SampleResult). z.y) e ∙ p.y_as;
        xi = ap (λ (z : SampleResult). z.xi) e ∙ p.xi_as;
        decision_is = ap (λ (z : SampleResult). z.decision) e ∙ q.decision_as;
        z = ap (λ (z : SampleResult). z.z) e ∙ q.z_as;
        theta = ap (λ (z : SampleResult). z.theta) e ∙ q.theta_as;
        psi = ap (λ (z : SampleResult). z.psi) e ∙ w.exponent;
        forward_is = w.ahead;
        back_is = w.behind;
        symbols_are = d ∙ ap (λ (z : ℤ). z ∷ t.symbols) q.v_as;
      }

  -- of what steps 1 to 5 give, for a list that has the symbols
  module _ {h : Output} {j : Decision} (d : Decided h j) where
    pub change_bounds_of : {y : List ℤ} → y ≡ t.symbols → ChangeBounds k.M x t.ψ h j t.forward t.back t.samples y
    change_bounds_of e = rw e (change_bounds h j d.output d.decision)

    pub handable_of : (h.xi ≤ output_exponent_limit) × (j.theta ≤ output_exponent_limit) × (nat_abs j.decision < 2 ^ (symbol_limit + 1))
    handable_of = handable h j d.output d.decision

    -- the symbols after it, where l has them from the second place on
    placed : (l : List ℤ) → drop 1 l ≡ t.symbols → set l 0 (to_z w16 (of_z w16 j.v)) ≡ j.v ∷ t.symbols
    placed l s =
        set_split l 0 _ (first_place k.q l (ap length s ∙ r.fit.symbols_long) r.fit.within.q_least)
        ∙ ap₂ (λ (n : ℤ) (l : List ℤ). n ∷ l) (symbol_fits j.v (rw d.decision.v_as (S.v_below k Γ t entry r.fit r.entry_is))) s

    pub result_placed : (l : List ℤ) → drop 1 l ≡ t.symbols → {ψ' : ℕ} {f' b' y : List ℤ} {z : SampleResult} → y ≡ t.symbols → ChangedIs k.M x t.ψ h j t.forward t.back t.samples y ψ' f' b' → z ≡ result_of h j ψ' →
        SampleResultIs k Γ t entry z f' b' (set l 0 (to_z w16 (of_z w16 j.v)))
    result_placed l s {ψ' = ψ'} {f' = f'} {b' = b'} {y = y} {z = z} e c given = result_as h j d.output d.decision ψ' f' b' y _ c e (placed l s) z given
