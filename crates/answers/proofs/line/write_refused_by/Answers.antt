-- The name, then the number.
use Rattle.answers.specs.Answer.{refused_by}
use Rattle.answers.proofs.line.write_refused_by.Goals as goal

pub returns : goal.returns
unfolding refused_by
returns g c = g.met.T.Writable.after_both _ _ _ _ _ c.push_all.ensures c.write_item.ensures
