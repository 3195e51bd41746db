-- The table is read where the month is not a leap year's February.
use mathlib.Core.Path.{sym}
use Rattle.ledger.specs.Calendar.{days_of}
use Rattle.ledger.proofs.calendar.days_of.Goals as goal

pub returns-then-of_year-is_leap_year : goal.returns-then-of_year-is_leap_year
unfolding days_of
returns-then-of_year-is_leap_year c = rw (sym c.is_leap_year.ensures, c.if-of_year-is_leap_year.true)

pub returns : goal.returns
unfolding days_of
returns c = rw (sym c.is_leap_year.ensures, c.if-of_year-is_leap_year.false)
