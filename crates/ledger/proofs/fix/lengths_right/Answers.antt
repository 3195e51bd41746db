-- The tests are the definition's.
use Rattle.ledger.specs.Fix.{fixing_lengths}
use Rattle.ledger.proofs.fix.lengths_right.Goals as goal

pub returns : goal.returns
unfolding fixing_lengths
returns c = rw (c.lines_whole.ensures, c.in_force_right.ensures)
