-- By the answer.
use Rattle.answers.specs.Answer.{outcome_line}
use Rattle.answers.proofs.line.write_outcome.Goals as goal

pub returns-in-Ok : goal.returns-in-Ok
unfolding outcome_line
returns-in-Ok g c = rw c.in-Ok.is (g.met.T.Writable.after_both _ _ _ _ _ c.push_all.ensures c.push_all-in-Ok.ensures)

pub returns-in-Err : goal.returns-in-Err
unfolding outcome_line
returns-in-Err g c = rw c.in-Err.is (g.met.T.Writable.after_both _ _ _ _ _ c.write_refused.ensures c.push.ensures)
