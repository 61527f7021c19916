-- The product is below 2^64.
use native.Mathlib.Omega.{arith}
use Rattle.std.proofs.lemmas.Grind.{common_steps}
use Rattle.state.proofs.SizesLaws.{product_most}
use Rattle.state.proofs.sizes.admits.Goals as goal

pub overflow_mul-result : goal.overflow_mul-result
overflow_mul-result c = grind (arith, common_steps, product_most c.args.k c.requires (omega arith))
