-- The code is the definition.
use mathlib.Core.Path.{refl}
use Rattle.ledger.specs.Ledger.{next_month}
use Rattle.ledger.proofs.ledger.Ledger.next_month.Goals as goal

pub returns : goal.returns
unfolding next_month
returns c = refl
