-- Number after number, and the line end.
use Rattle.answers.specs.Answer.{values_line}
use Rattle.answers.proofs.line.write_values.Goals as goal

pub returns : goal.returns
unfolding values_line
returns g c =
    let both = g.met.T.Writable.after_both in
    both _ _ _ _ _
    (both _ _ _ _ _
    (both _ _ _ _ _
    (both _ _ _ _ _ c.write_item.ensures c.write_item-2.ensures)
    c.write_item-3.ensures)
    c.write_item-4.ensures)
    c.push.ensures
