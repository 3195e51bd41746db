-- The code is the definition.
use mathlib.Core.Path.{refl}
use Rattle.ledger.specs.Calendar.{is_leap_year}
use Rattle.ledger.proofs.calendar.is_leap_year.Goals as goal

pub returns : goal.returns
unfolding is_leap_year
returns c = refl
