use mathlib.Core.Path.{◌≡◌}
use Rattle.trace_text.specs.Text.{lines}
use Rattle.trace_text.specs.Calls.{TextAt}
use Rattle.trace_text.proofs.line.Text.lines.Given as goal

abbrev pub invariant-loop-i : goal.invariant-loop-i
invariant-loop-i l = record {
  same_reference : l.self.out.ghost_name ≡ l.initial.self.out.ghost_name;
  text : TextAt l.initial.self.end (lines l.place l.y l.xi l.decision l.i) l.initial.self.out.now l.self.end l.self.out.now;
}
