-- By whether it is an interim fixing.
use Rattle.ledger.specs.Fix.{in_force_length}
use Rattle.ledger.proofs.fix.in_force_right.Goals as goal

pub returns-in-Some : goal.returns-in-Some
unfolding in_force_length
returns-in-Some c = rw (c.in-Some.is, c.line_count.ensures)

pub returns-in-None : goal.returns-in-None
unfolding in_force_length
returns-in-None c = rw c.in-None.is
