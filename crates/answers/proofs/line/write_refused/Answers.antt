-- By the refusal's number.
use Rattle.answers.specs.Answer.{refused_text}
use Rattle.answers.proofs.line.write_refused.Goals as goal

pub returns : goal.returns
unfolding refused_text
returns g c = rw c.from.ensures at c.write_refused_by.ensures
