-- Whether a month is settled picks the month that is due, as in the definition.
use Rattle.ledger.specs.Turn.{settlement_turn}
use Rattle.ledger.proofs.settle.in_turn.Goals as goal
use Rattle.ledger.proofs.settle.in_turn.Goals.{then-any_settled, else-any_settled}

pub returns : goal.returns
unfolding settlement_turn
returns c =
    elim c.if-any_settled.branch [
      | then-any_settled w ↦ rw (w.due-is, ← w.if-any_settled.ensures, w.next_month.ensures)
      | else-any_settled w ↦ rw (w.due-is, ← w.if-any_settled.ensures)
    ]
