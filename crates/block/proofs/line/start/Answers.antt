-- What the copy leaves is a paste.
use mathlib.Core.Path.{refl}
use Prim.Native.Nat.{◌+◌, ◌-◌}
use native.Mathlib.Omega.{arith}
use lib.ListN.{length}
use Rattle.std.proofs.lemmas.Slice.{put_mid-paste}
use Rattle.steps.specs.Limits.{block_limit}
use Rattle.block.proofs.line.start.Goals as goal

pub returns : goal.returns
returns c = put_mid-paste block_limit (block_limit + length c.args.old.now - block_limit) c.args.line.now _ c.args.old.now _ c.copy_from_slice.ensures.after (omega arith) refl
