use Rattle.filter.specs.Lent.{SameLists}
use Rattle.block.specs.Block.{Block, Memory}
use Rattle.block.specs.Calls.{BegunOn}
use Rattle.block.specs.Lists.{outputs_in, SameOutputs}
use Rattle.block.proofs.RunLaws.{Passed}
use Rattle.block.proofs.run.run_samples.Given as goal

-- of any block that has begun so
abbrev pub invariant-loop-n : goal.invariant-loop-n
invariant-loop-n l = record {
  lists : SameLists l.initial.weights l.weights;
  outputs : SameOutputs l.initial.outputs l.outputs;
  passed : (o : Memory) (i : Block) →
      BegunOn l.k o i l.e l.psi l.entries l.initial.weights.forward.now l.initial.weights.back.now l.samples l.initial.symbols (outputs_in l.initial.outputs) →
      Passed l.k o i l.samples (outputs_in l.initial.outputs)
      (record { n = l.n; forward = l.weights.forward.now; back = l.weights.back.now; symbols = l.symbols; ψ = l.at; outputs = outputs_in l.outputs }) l.delay;
}
