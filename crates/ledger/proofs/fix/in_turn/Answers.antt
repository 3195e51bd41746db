-- The code is the definition.
use Rattle.ledger.specs.Turn.{fixing_turn}
use Rattle.ledger.proofs.fix.in_turn.Goals as goal

pub returns : goal.returns
unfolding fixing_turn
returns c = rw (c.any_settled.ensures, c.next_month.ensures)
