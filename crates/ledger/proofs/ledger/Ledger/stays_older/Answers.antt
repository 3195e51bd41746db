-- The code is the definition.
use mathlib.Core.Path.{refl}
use Rattle.ledger.specs.Ledger.{stays_older}
use Rattle.ledger.proofs.ledger.Ledger.stays_older.Goals as goal

pub returns : goal.returns
unfolding stays_older
returns c = refl
