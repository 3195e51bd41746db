-- By the answer.
use Rattle.answers.specs.Answer.{used_line}
use Rattle.answers.proofs.line.write_used.Goals as goal

pub returns-in-Ok : goal.returns-in-Ok
unfolding used_line
returns-in-Ok g c =
    let both = g.met.T.Writable.after_both in
    rw c.in-Ok.is
    (both _ _ _ _ _ (both _ _ _ _ _ c.push_all.ensures c.write_item.ensures)
    c.push.ensures)

pub returns-in-Err : goal.returns-in-Err
unfolding used_line
returns-in-Err g c = rw c.in-Err.is c.write_outcome.ensures
