-- Where ξ is no smaller than any κ, neither κ nor a cut is needed; elsewhere both exponents are compared.
use Rattle.std.proofs.Common.{◌≡◌, arith, rules, nat_abs}
use Rattle.numbers.specs.BitLength.{bit_length}
use Rattle.steps.proofs.ErrorLaws.{difference_bounds, output_room, output_error, output_exponent_error}
use Rattle.steps.proofs.error.error.Goals as goal

pub difference-requires : goal.difference-requires
difference-requires c = search (rules, output_room c.requires c.if-sb-r.true)

length : (c : goal.After-signed_bit_length) → c.signed_bit_length.result ≡ bit_length (nat_abs c.args.v)
length c = search rules

pub overflow_add-sb-else-sb-r : goal.overflow_add-sb-else-sb-r
overflow_add-sb-else-sb-r c = record { fits = omega (arith, length c, (difference_bounds c.requires).κ_most) }

pub compared-requires : goal.compared-requires
compared-requires c = rw (length c) (search (rules, difference_bounds c.requires))

pub returns-then-sb-r : goal.returns-then-sb-r
returns-then-sb-r c = search (rules, output_error c.requires c.if-sb-r.true, output_exponent_error c.requires c.if-sb-r.true)
