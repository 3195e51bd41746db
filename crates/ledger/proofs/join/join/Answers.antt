-- What is promised of either answer.
use Rattle.ledger.proofs.JoinLaws.{join_refused, join_accepted}
use Rattle.ledger.proofs.join.join.Goals as goal

pub returns-in-Ok : goal.returns-in-Ok
returns-in-Ok c = join_accepted _ _ c.in-Ok.ensures

pub returns-in-Err : goal.returns-in-Err
returns-in-Err c = rw c.refused.ensures (join_refused _ _ c.in-Err.ensures)
