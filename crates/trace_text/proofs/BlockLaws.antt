-- A block of a trace: work areas, the lists that it is run on, what it answers, the text that it adds.
use mathlib.Core.Path.{◌≡◌, refl, sym, ap, ◌∙◌, subst}
use mathlib.Core.List.{List, ◌++◌}
use Prim.Native.Nat.{ℕ, ◌+◌, ◌*◌, ◌^◌, ◌≤◌, ◌<◌}
use native.Mathlib.Omega.{arith}
use native.Mathlib.Nat.{mul-le-mul_right}
use lib.ListN.{length, get_or, take, replicate, length-append, length-replicate}
use lib.Seq.{take_at}
use lib.IntN.{ℤ, pos, nat_abs}
use mir.Syntax.{w16}
use mir.Val.{to_z}
use mir.Facts.{sfits_to_z}
use borrow.Author.Tests.{eq-eqb, ne_eqb}
use Rattle.std.specs.Prelude.{Result, Ok, Err}
use Rattle.std.proofs.lemmas.List.{take-replicate}
use Rattle.laws.specs.Sums.{each_of}
use Rattle.laws.specs.Machine.{abs_fits}
use Rattle.laws.specs.Values.{values_length, values_at}
use Rattle.words.specs.Words.{byte_at, number_at}
use Rattle.steps.specs.Limits.{data_unit, block_limit, slots}
use Rattle.trace_layout.specs.Trace.{trace_limit, settings_in, count_in, samples_in, sample_start, samples_from, trace_sample}
use Rattle.trace_layout.proofs.ReadLaws.{well_long, well_most}
use Rattle.trace_layout.specs.Calls.{ReadIs}
use Rattle.filter.proofs.DecisionSize.{decision_most}
use Rattle.block.specs.Block.{Outputs, Γ, at, entry_at, block_outputs}
use Rattle.block.proofs.BlockMemory as Left
use Rattle.block.proofs.BlockHolds.{at_sample, output_at}
use Rattle.state.specs.State.{settings, memory}
use Rattle.state.specs.Calls.{number_in}
use Rattle.state.specs.Refusal.{number_of, answer_with}
use Rattle.state.specs.declared.refusal.Refusal.{Refusal}
use Rattle.state.specs.declared.equaliser.Equaliser.{Equaliser}
use Rattle.state.specs.declared.equaliser.Answer.{Answer}
use Rattle.state.proofs.RefusalLaws.{number_least}
use Rattle.checks.specs.Checks.{Buffers, buffers_of}
use Rattle.checks.specs.Calls.{Sampled, Checked}
use Rattle.checks.proofs.CheckLaws.{checked_is}
use Rattle.station.specs.Answers.{run_number, Run}
use Rattle.station.proofs.AnswerLaws.{outputs_new, run_tests}
use Rattle.trace_text.specs.Buffers.{buffers_with, buffers_at}
use Rattle.trace_text.specs.Text.{lines, block_lines, stop_line, block_text}
use Rattle.trace_text.specs.Calls.{line_limit, TextAt, Printable, AllPrintable, RanIs, OfTrace, BlockRunnable, Blockable, AddedIs}
use Rattle.trace_text.proofs.TextAtLaws.{text_same}
use Rattle.trace_text.proofs.LineLaws.{lines_short}

-- ---- refusals

-- no refusal has the number 0
pub number_some : (x : Refusal) → number_of x ≡ 0 → ⊥
number_some x z = omega (arith, number_least x)

-- the number of an answer
number_same : (e : Equaliser) (x : Result Equaliser Refusal) → number_in x ≡ (answer_with e x).number
number_same e (Ok s) = refl
number_same e (Err x) = refl

-- ---- work areas

module _ {A : Type 0} (x : A) (n : ℕ) (h : n ≤ block_limit) where
  pub zeros : take n (replicate block_limit x) ≡ replicate n x
  zeros = take-replicate n block_limit x h

  pub zeros_long : length (take n (replicate block_limit x)) ≡ n
  zeros_long = ap length zeros ∙ length-replicate n x

module _ {A : Type 0} (l rest : List A) (n : ℕ) (e : length l ≡ n) where
  -- a list that was put to the front
  pub front_is : take n (l ++ rest) ≡ l
  front_is = take_at l rest n e

  pub front_long : length (take n (l ++ rest)) ≡ n
  front_long = ap length front_is ∙ e

  pub front_within : n ≤ length (l ++ rest)
  front_within = omega (arith, length-append l rest)

-- ---- the lists that a block is run on

pub read_long : {t : List ℕ} {first n : ℕ} {m : List ℤ} {gains : List ℕ} {entries : List ℤ} → ReadIs t first n m gains entries →
    (length m ≡ n) × (length gains ≡ n) × (length entries ≡ n)
read_long r = (ap length r.m_is ∙ values_length _ _, ap length r.gains_is ∙ values_length _ _, ap length r.entries_is ∙ values_length _ _)

pub buffers_is : (t : List ℕ) (n first : ℕ) (m : List ℤ) (gains : List ℕ) (entries y : List ℤ) (xi : List ℕ) (decision z : List ℤ) (theta : List ℕ) →
    n ≡ (settings_in t).N → ReadIs t first n m gains entries → z ≡ replicate n (pos 0) → theta ≡ replicate n 0 →
    buffers_of m gains entries y xi decision z theta ≡ buffers_with t first y xi decision
unfolding buffers_with
buffers_is t n first m gains entries y xi decision z theta h r a b = rw (r.m_is, r.gains_is, r.entries_is, a, b, h) refl

-- the lists read stand at the front of work areas
pub area_buffers : (t : List ℕ) (first : ℕ) {n k : ℕ} {m : List ℤ} {gains : List ℕ} {entries : List ℤ} (m' : List ℤ) (gains' : List ℕ) (entries' : List ℤ) (y : List ℤ) (xi : List ℕ) (decision : List ℤ) →
    n ≡ (settings_in t).N → n ≤ block_limit → k ≡ n → ReadIs t first k m gains entries →
    buffers_of (take n (m ++ m')) (take n (gains ++ gains')) (take n (entries ++ entries')) y xi decision (take n (replicate block_limit (pos 0))) (take n (replicate block_limit 0))
    ≡ buffers_with t first y xi decision
area_buffers t first {n} {k} {m} {gains} {entries} m' gains' entries' y xi decision h b e r =
    let long = read_long r in
    rw (front_is m m' n (long.0 ∙ e), front_is gains gains' n (long.1 ∙ e), front_is entries entries' n (long.2 ∙ e))
    (buffers_is t n first m gains entries y xi decision _ _ h (subst (λ (j : ℕ). ReadIs t first j m gains entries) e r) (zeros (pos 0) n b) (zeros {A = ℕ} 0 n b))

-- what a run answers, without Z and θ
pub ran_is : {e : Equaliser} {given l : Buffers} {a : Answer} {h : Outputs} {y : List ℤ} {xi : List ℕ} {decision : List ℤ} →
    given ≡ l → Run e given a h → y ≡ h.y → xi ≡ h.xi → decision ≡ h.decision → RanIs e l a y xi decision
ran_is {e} {a = a} {y = y} {xi} {decision} same r f g h =
    subst (λ (k : Buffers). RanIs e k a y xi decision) same
    (record {
      number = r.number;
      state = r.state;
      y_is = f ∙ ap (λ (o : Outputs). o.y) r.outputs;
      xi_is = g ∙ ap (λ (o : Outputs). o.xi) r.outputs;
      decision_is = h ∙ ap (λ (o : Outputs). o.decision) r.outputs;
    })

-- the samples of a trace have 16 bits
pub sampled : (t : List ℕ) (first : ℕ) (y : List ℤ) (xi : List ℕ) (decision : List ℤ) → ((i : ℕ) → byte_at t i < 256) → Sampled (buffers_with t first y xi decision).block.samples
unfolding buffers_with
sampled t first y xi decision h =
    each_of (λ (z : ℤ). nat_abs z ≤ 2 ^ data_unit) (pos 0) (samples_from t first (settings_in t).N) (λ i k.
    let below : i < (settings_in t).N = omega (arith, values_length (λ j. trace_sample t (first + j)) (settings_in t).N) in
    rw (values_at (λ j. trace_sample t (first + j)) (pos 0) (settings_in t).N i below) (small (sample_start (first + i))))
  where
    small : (i : ℕ) → nat_abs (to_z w16 (number_at 2 t i)) ≤ 2 ^ data_unit
    small i = abs_fits {w = w16} (sfits_to_z {w = w16} {n = number_at 2 t i} (omega (arith, h i, h (i + 1))))

-- ---- what an accepted block hands out can be printed

module _ (e : Equaliser) (l : Buffers) (place : ℕ) (run : run_number e l ≡ 0) (w : length e.weights ≡ slots) (d : length e.past ≡ slots)
    (m : Sampled l.block.samples) (room : place + e.n ≤ trace_limit) where
  c : Checked e l.block
  c = checked_is e l (run_tests e l run).0 w d m

  each : (i : ℕ) → i < e.n →
      Printable (place + i) (get_or (block_outputs (settings e) (memory e) l.block).y i (pos 0)) (get_or (block_outputs (settings e) (memory e) l.block).xi i 0)
      (get_or (block_outputs (settings e) (memory e) l.block).decision i (pos 0))
  each i h =
      let s = at_sample (settings e) (memory e) l.block c.sound c.acceptable (run_tests e l run).1 i h in
      let o = output_at (settings e) (memory e) l.block i h in
      let entry = entry_at (settings e) (memory e) l.block i in
      rw (o.Y_is, o.ξ_is, o.decision_is)
      (record {
        place_below = omega (arith, room);
        Y_below = s.bounded.Y_small;
        ξ_most = s.bounded.ξ_most;
        decision_below = decision_most (settings e) (Γ (settings e) (memory e) l.block) (at (settings e) (memory e) l.block i) entry c.sound.within.r_most;
      })

  pub printable : AllPrintable place (block_outputs (settings e) (memory e) l.block).y (block_outputs (settings e) (memory e) l.block).xi (block_outputs (settings e) (memory e) l.block).decision
  printable =
      let long = Left.block_long (settings e) (memory e) l.block in
      record {
        short = omega (arith, long.y_long, c.sound.within.N_most);
        ξ_long = long.xi_long ∙ sym long.y_long;
        decisions_long = long.decision_long ∙ sym long.y_long;
        each = λ i h. each i (omega (arith, long.y_long));
      }

  pub block_short : length (block_lines place e l) ≤ line_limit * e.n
  unfolding block_lines
  block_short = lines_short place _ _ _ e.n printable (omega (arith, (Left.block_long (settings e) (memory e) l.block).y_long))

-- ---- what an accepted block handed out, at the front of work areas

module _ {e : Equaliser} {l : Buffers} {a : Answer} {y : List ℤ} {xi : List ℕ} {decision : List ℤ} (r : RanIs e l a y xi decision) (z : a.number ≡ 0) where
  pub accepts : run_number e l ≡ 0
  accepts = sym r.number ∙ z

  Y_is : y ≡ (block_outputs (settings e) (memory e) l.block).y
  Y_is = r.y_is ∙ ap (λ (t : Outputs). t.y) (outputs_new e l accepts)

  ξ_is : xi ≡ (block_outputs (settings e) (memory e) l.block).xi
  ξ_is = r.xi_is ∙ ap (λ (t : Outputs). t.xi) (outputs_new e l accepts)

  decision_is : decision ≡ (block_outputs (settings e) (memory e) l.block).decision
  decision_is = r.decision_is ∙ ap (λ (t : Outputs). t.decision) (outputs_new e l accepts)

  pub block_long : (length y ≡ e.n) × (length xi ≡ e.n) × (length decision ≡ e.n)
  block_long =
      let long = Left.block_long (settings e) (memory e) l.block in
      (ap length Y_is ∙ long.y_long, ap length ξ_is ∙ long.xi_long, ap length decision_is ∙ long.decision_long)

  module _ (place : ℕ) (ry : List ℤ) (rx : List ℕ) (rd : List ℤ) where
    front_Y : take e.n (y ++ ry) ≡ (block_outputs (settings e) (memory e) l.block).y
    front_Y = front_is y ry e.n block_long.0 ∙ Y_is

    front_ξ : take e.n (xi ++ rx) ≡ (block_outputs (settings e) (memory e) l.block).xi
    front_ξ = front_is xi rx e.n block_long.1 ∙ ξ_is

    front_decision : take e.n (decision ++ rd) ≡ (block_outputs (settings e) (memory e) l.block).decision
    front_decision = front_is decision rd e.n block_long.2 ∙ decision_is

    pub front_printable : length e.weights ≡ slots → length e.past ≡ slots → Sampled l.block.samples → place + e.n ≤ trace_limit →
        AllPrintable place (take e.n (y ++ ry)) (take e.n (xi ++ rx)) (take e.n (decision ++ rd))
    front_printable w d m room = rw (front_Y, front_ξ, front_decision) (printable e l place accepts w d m room)

    pub front_lines : lines place (take e.n (y ++ ry)) (take e.n (xi ++ rx)) (take e.n (decision ++ rd)) (length (take e.n (y ++ ry))) ≡ block_lines place e l
    unfolding block_lines
    front_lines = ap (lines place _ _ _) (front_long y ry e.n block_long.0) ∙ rw (front_Y, front_ξ, front_decision) refl

-- ---- the text of a block

module _ (t : List ℕ) (e : Equaliser) (o : OfTrace t e) where
  -- lists for what a block hands out, of zeros
  pub buffers_zeros : (first : ℕ) → buffers_with t first (take e.n (replicate block_limit (pos 0))) (take e.n (replicate block_limit 0)) (take e.n (replicate block_limit (pos 0))) ≡ buffers_at t first
  buffers_zeros first = rw (zeros (pos 0) e.n o.n_most, zeros {A = ℕ} 0 e.n o.n_most, o.n_is) refl

  module _ (i : ℕ) (h : i < count_in t) where
    pub block_within : i * e.n + e.n ≤ samples_in t
    block_within = omega (arith, mul-le-mul_right e.n h, ap (λ (n : ℕ). count_in t * n) o.n_is)

    pub block_few : i * e.n + e.n < trace_limit
    block_few = omega (arith, block_within, well_long t o.well_formed_lem, well_most t o.well_formed_lem)

    pub block_runnable : {n : ℕ} → n ≡ e.n → BlockRunnable t e (i * n)
    block_runnable k = record { trace = o; within = omega (arith, block_within, ap (λ (m : ℕ). i * m) k) }

module _ (t : List ℕ) (e : Equaliser) (i : ℕ) where
  abbrev lent : Buffers
  lent = buffers_at t (i * e.n)

  pub refused_text : (run_number e lent ≡ 0 → ⊥) → stop_line (run_number e lent) i ≡ block_text t e i
  unfolding block_text
  refused_text f = simp (ne_eqb (run_number e lent) 0 f)

  pub accepted_text : run_number e lent ≡ 0 → block_lines (i * e.n) e lent ≡ block_text t e i
  unfolding block_text
  accepted_text z = simp (eq-eqb (run_number e lent) 0 z)

-- the block i is run on work areas of zeros
module _ {t : List ℕ} {e : Equaliser} {i at : ℕ} {out : List ℕ} (b : Blockable t e i at out) {n : ℕ} (k : n ≡ e.n) {a : Answer} {y : List ℤ} {xi : List ℕ} {decision : List ℤ}
    (r : RanIs e (buffers_with t (i * n) (take n (replicate block_limit (pos 0))) (take n (replicate block_limit 0)) (take n (replicate block_limit (pos 0)))) a y xi decision) where
  zeros_are : buffers_with t (i * n) (take n (replicate block_limit (pos 0))) (take n (replicate block_limit 0)) (take n (replicate block_limit (pos 0))) ≡ buffers_at t (i * e.n)
  zeros_are = rw k (buffers_zeros t e b.trace (i * e.n))

  ran : RanIs e (buffers_at t (i * e.n)) a y xi decision
  ran = subst (λ (l : Buffers). RanIs e l a y xi decision) zeros_are r

  module _ (z : a.number ≡ 0) (y' : List ℤ) (xi' : List ℕ) (decision' : List ℤ) where
    -- its lines can be printed
    pub block_printable : ((j : ℕ) → byte_at t j < 256) → length e.weights ≡ slots → length e.past ≡ slots →
        AllPrintable (i * n) (take n (y ++ y')) (take n (xi ++ xi')) (take n (decision ++ decision')) × (at + line_limit * length (take n (y ++ y')) ≤ length out)
    block_printable bytes w d = rw k (
      front_printable ran z (i * e.n) y' xi' decision' w d (sampled t (i * e.n) _ _ _ bytes) (omega (arith, block_few t e b.trace i b.within)),
      omega (arith, b.room, front_long y y' e.n (block_long ran z).0),
    )

    -- and are what the block adds
    pub block_added : {end : ℕ} {out' : List ℕ} {x : Result Equaliser Refusal} → answer_with e x ≡ a →
        TextAt at (lines (i * n) (take n (y ++ y')) (take n (xi ++ xi')) (take n (decision ++ decision')) (length (take n (y ++ y')))) out end out' →
        AddedIs t e i at x out end out'
    block_added {x = x} f w = record {
      number = number_same e x ∙ ap (λ (k : Answer). k.number) f ∙ ran.number;
      state = ap (λ (k : Answer). k.state) f ∙ ran.state;
      written = text_same (front_lines ran z (i * e.n) y' xi' decision' ∙ accepted_text t e i (accepts ran z)) (rw k at w);
    }

-- a block that is refused adds a line
pub stop_added : {t : List ℕ} {e : Equaliser} {i at : ℕ} {out : List ℕ} → Blockable t e i at out → {n : ℕ} → n ≡ e.n → {x : Refusal} {y : List ℤ} {xi : List ℕ} {decision : List ℤ} →
    RanIs e (buffers_with t (i * n) (take n (replicate block_limit (pos 0))) (take n (replicate block_limit 0)) (take n (replicate block_limit (pos 0)))) (answer_with e (Err x)) y xi decision →
    {m end : ℕ} {out' : List ℕ} → m ≡ number_of x → TextAt at (stop_line m i) out end out' → AddedIs t e i at (Err x) out end out'
stop_added {t} {e} {i} b k {x} r f w =
    let q = ran b k r in
    record {
      number = q.number;
      state = q.state;
      written = text_same (ap (λ (n : ℕ). stop_line n i) (f ∙ q.number) ∙ refused_text t e i (λ z. number_some x (q.number ∙ z))) w;
    }
