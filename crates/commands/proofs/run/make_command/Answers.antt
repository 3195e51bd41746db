-- Each arm makes its command with the parts of its form.
use Rattle.numbers.specs.Bounded.{list_below}
use Rattle.journal.specs.Form.{parts_in, parts_below}
use Rattle.commands.proofs.run.make_command.Goals as goal

pub returns-in-Open-clause-booked : goal.returns-in-Open-clause-booked
unfolding parts_in parts_below list_below
returns-in-Open-clause-booked c = rw (c.in-Open.is, ← c.number_of.ensures) c.run_open.ensures.booked

pub returns-in-Open-clause-answered : goal.returns-in-Open-clause-answered
unfolding parts_in parts_below list_below
returns-in-Open-clause-answered c = rw (c.in-Open.is, ← c.number_of.ensures) c.run_open.ensures.answered
