-- The definition in one form, at the larger exponent.
use Rattle.std.proofs.Common.{rules}
use Rattle.steps.proofs.OutputLaws.{error_form, error_exponent_form}
use Rattle.steps.proofs.error.compared.Goals as goal

pub difference-requires : goal.difference-requires
difference-requires c = search (rules, error_exponent_form)

pub returns : goal.returns
returns c = search (rules, error_form, error_exponent_form)
