-- Every accepted block of every list of calls hands out lists that can be read.
use mathlib.Core.Path.{◌≡◌, sym, ap, ◌∙◌, subst}
use mathlib.Core.Bool.{true}
use mathlib.Core.List.{List, [], ◌∷◌}
use Prim.Native.Nat.{ℕ, ◌≤◌, ◌<◌}
use native.Mathlib.Omega.{arith}
use lib.IntN.{ℤ, pos, nat_abs}
use lib.ListN.{length, get_or}
use Rattle.laws.specs.Lists.{all}
use Rattle.laws.specs.Sums.{each_of}
use Rattle.steps.specs.Limits.{output_exponent_limit}
use Rattle.steps.specs.Fir.{all_below}
use Rattle.steps.proofs.LargestLaws.{below_all}
use Rattle.block.specs.Block.{block_outputs, AtSample}
use Rattle.block.proofs.BlockHolds.{OutputAt, output_at}
use Rattle.block.proofs.BlockMemory.{block_long}
use Rattle.state.specs.State.{settings, memory}
use Rattle.state.specs.declared.equaliser.Equaliser.{Equaliser}
use Rattle.state.proofs.SizesLaws.{fit_within}
use Rattle.checks.specs.Checks.{Buffers}
use Rattle.station.specs.Answers.{run_number, run_state, run_outputs}
use Rattle.station.specs.Claim.{Call, run, trial, save, load, left, Start, WithinLimits, AcceptedBlock, RunHolds, CallHolds, Holds}
use Rattle.station.proofs.AnswerLaws.{outputs_new}
use Rattle.station.proofs.Claim.{claim}
use Rattle.readings.specs.Limits.{output_limit, error_limit}
use Rattle.readings.specs.Readings.{Lists, exponent_fits, readable}
use Rattle.readings.specs.Calls.{Exponent}
use Rattle.readings.proofs.ListLaws.{exponents_fit}
use Rattle.readings.proofs.ReadableLaws.{Readable, readable_of, number_given, given}
use Rattle.readings.proofs.ReadingsHold.{readings_hold}
use Rattle.laboratory.specs.Taken.{read_lists, Taken, BlockTaken, CallTaken, AllTaken}

-- what an accepted block hands out
abbrev out : Equaliser → Buffers → Lists
out s l = read_lists (block_outputs (settings s) (memory s) l.block)

module _ (s : Equaliser) (g : WithinLimits s) (l : Buffers) (h : AcceptedBlock s l (run_state s l) (run_outputs s l)) where
  at : (n : ℕ) → n < s.n → AtSample (settings s) (memory s) l.block n
  at n k = h.sample n k

  out_at : (n : ℕ) → n < s.n → OutputAt (settings s) (memory s) l.block n
  out_at n k = output_at (settings s) (memory s) l.block n k

  exponents : (xs : List ℕ) → length xs ≡ s.n → ((n : ℕ) → n < s.n → (1 ≤ get_or xs n 0) × (get_or xs n 0 ≤ output_exponent_limit)) → all exponent_fits xs ≡ true
  exponents xs e f = exponents_fit xs (each_of Exponent 0 xs (λ n k. f n (omega arith)))

  all_small : (limit : ℕ) (xs : List ℤ) → length xs ≡ s.n → ((n : ℕ) → n < s.n → nat_abs (get_or xs n (pos 0)) < limit) → all_below limit xs ≡ true
  all_small limit xs e f = below_all limit xs (each_of (λ x. nat_abs x < limit) (pos 0) xs (λ n k. f n (omega arith)))

  can_be_read : Readable (out s l) s.n
  can_be_read =
      let w = fit_within (settings s) g.sizes in
      let long = block_long (settings s) (memory s) l.block in
      record {
        fill = record {
          long = record { some = w.N_least; few = w.N_most; y_long = long.y_long; xi_long = long.xi_long; z_long = long.z_long; theta_long = long.theta_long };
          xi_fit = exponents (out s l).xi long.xi_long (λ n k. let b = at n k in (omega (arith, (out_at n k).ξ_is, b.bounded.ξ_least), omega (arith, (out_at n k).ξ_is, b.bounded.ξ_most)));
          theta_fit = exponents (out s l).theta long.theta_long (λ n k. let b = at n k in (omega (arith, (out_at n k).θ_is, b.bounded.θ_least), omega (arith, (out_at n k).θ_is, b.bounded.θ_most)));
        };
        z_small = all_small error_limit (out s l).z long.z_long (λ n k. let b = at n k in subst (λ (x : ℤ). nat_abs x < error_limit) (sym (out_at n k).Z_is) b.bounded.Z_small);
        y_small = all_small output_limit (out s l).y long.y_long (λ n k. let b = at n k in subst (λ (x : ℤ). nat_abs x < output_limit) (sym (out_at n k).Y_is) b.bounded.Y_small);
      }

  taken : Taken (out s l) s.n
  taken =
      let ok = readable_of can_be_read in
      record {
        accepted = number_given (out s l) s.n ok;
        written = λ before e. sym (given (out s l) before (ap (readable (out s l)) e ∙ ok)).output;
        holds = readings_hold (out s l) s.n ok;
      }

-- what the contract of an accepted block says of its lists
block_taken : (s : Equaliser) → WithinLimits s → (l : Buffers) → RunHolds s l (run_number s l) (run_state s l) (run_outputs s l) → BlockTaken s l
block_taken s g l h a o r e = rw (r.outputs, outputs_new s l ok) (taken s g l (h.accepted ok))
  where
    ok : run_number s l ≡ 0
    ok = sym r.number ∙ e

call_taken : (s : Equaliser) → WithinLimits s → (c : Call) → CallHolds s c → CallTaken s c
call_taken s g (run l t) h = block_taken s g l h
call_taken s g (trial l t) h = block_taken s g l h.as_run
call_taken s g (save buffer t) h = tt
call_taken s g (load bytes t) h = tt

from_holds : (s : Equaliser) (cs : List Call) → Holds s cs → AllTaken s cs
from_holds s [] h = tt
from_holds s (c ∷ cs) h = (call_taken s h.0 c h.1.0, from_holds (left s c) cs h.1.1)

pub all_taken : (s : Equaliser) → Start s → (cs : List Call) → AllTaken s cs
all_taken s start cs = from_holds s cs (claim s start cs)
