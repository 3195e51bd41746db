-- The code is the definition.
use Rattle.ledger.specs.Calendar.{day_allowed}
use Rattle.ledger.proofs.calendar.day_allowed.Goals as goal

pub returns : goal.returns
unfolding day_allowed
returns c = rw (c.is_between.ensures, c.days_of.ensures)
