-- The words and the number, then the line end.
use Rattle.answers.specs.Answer.{error_line}
use Rattle.answers.proofs.line.write_error.Goals as goal

pub returns : goal.returns
unfolding error_line
returns g c = g.met.T.Writable.after_both _ _ _ _ _ c.write_item.ensures c.push.ensures
