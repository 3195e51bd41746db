-- By the answer.
use Rattle.answers.specs.Answer.{fixing_line}
use Rattle.answers.proofs.line.write_fixing.Goals as goal

pub returns-in-Ok : goal.returns-in-Ok
unfolding fixing_line
returns-in-Ok g c =
    let both = g.met.T.Writable.after_both in
    rw c.in-Ok.is
    (both _ _ _ _ _ (both _ _ _ _ _ c.push_all.ensures c.push_all-in-Ok.ensures)
    c.write_values.ensures)

pub returns-in-Err : goal.returns-in-Err
unfolding fixing_line
returns-in-Err g c =
    let both = g.met.T.Writable.after_both in
    rw c.in-Err.is
    (both _ _ _ _ _ (both _ _ _ _ _ c.write_refused.ensures c.write_place.ensures)
    c.push.ensures)
