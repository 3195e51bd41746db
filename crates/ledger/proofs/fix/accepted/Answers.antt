-- The definition, field by field.
use mathlib.Core.Path.{refl}
use Rattle.ledger.specs.Fix.{accepted_values}
use Rattle.ledger.proofs.fix.accepted.Goals as goal

pub returns : goal.returns
unfolding accepted_values
returns c = refl
