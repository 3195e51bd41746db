-- The line, then what stands under it.
use Rattle.std.proofs.Common.{ap, ◌∙◌}
use Rattle.answers.specs.Answer.{settled_rows, settled_text}
use Rattle.answers.proofs.AnswerLaws.{answer_under}
use Rattle.answers.proofs.answer.write_settled.Goals as goal

pub returns : goal.returns
unfolding settled_rows settled_text
returns g c =
    g.met.T.Writable.after_both _ _ _ _ _ c.write_outcome.ensures (rw c.is_ok.ensures.value at c.write_settled_rows.ensures)
    ∙ ap (λ text. g.T.Writable.after text c.args.text.now) (answer_under _ c.args.answer _ _)
