use mathlib.Core.Path.{◌≡◌}
use Rattle.trace_text.proofs.TextLaws.{Going}
use Rattle.trace_text.proofs.blocks.all_blocks.Given as goal

abbrev pub invariant-loop-i : goal.invariant-loop-i
invariant-loop-i l = record {
  same_reference : l.text.out.ghost_name ≡ l.initial.text.out.ghost_name;
  going : Going l.t l.initial.state l.initial.text.end l.initial.text.out.now l.i l.text.end l.state l.text.out.now;
}
