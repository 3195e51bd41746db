-- The line, then what stands under it.
use Rattle.std.proofs.Common.{ap, ◌∙◌}
use Rattle.answers.specs.Answer.{fixed_rows, fixed_text}
use Rattle.answers.proofs.AnswerLaws.{answer_under}
use Rattle.answers.proofs.answer.write_fixed.Goals as goal

pub returns : goal.returns
unfolding fixed_rows fixed_text
returns g c =
    g.met.T.Writable.after_both _ _ _ _ _ c.write_fixing.ensures (rw c.is_ok.ensures.value at c.write_fixed_rows.ensures)
    ∙ ap (λ text. g.T.Writable.after text c.args.text.now) (answer_under _ c.args.answer _ _)
