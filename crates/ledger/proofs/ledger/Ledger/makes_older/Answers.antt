-- The code is the definition.
use mathlib.Core.Path.{refl}
use Rattle.ledger.specs.Ledger.{makes_older}
use Rattle.ledger.proofs.ledger.Ledger.makes_older.Goals as goal

pub returns : goal.returns
unfolding makes_older
returns c = refl
