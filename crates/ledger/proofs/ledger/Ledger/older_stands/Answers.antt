-- The code is the definition.
use mathlib.Core.Bool.{◌||◌}
use mathlib.Core.Path.{ap₂}
use Rattle.ledger.specs.Ledger.{older_stands}
use Rattle.ledger.proofs.ledger.Ledger.older_stands.Goals as goal

pub returns : goal.returns
unfolding older_stands
returns c = ap₂ ◌||◌ c.makes_older.ensures c.stays_older.ensures
