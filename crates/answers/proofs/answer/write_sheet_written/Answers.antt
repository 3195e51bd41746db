-- The line, then what stands under it.
use Rattle.std.proofs.Common.{ap, ◌∙◌}
use Rattle.answers.specs.Answer.{sheet_written_rows, sheet_written_text}
use Rattle.answers.proofs.AnswerLaws.{written_under}
use Rattle.answers.proofs.answer.write_sheet_written.Goals as goal

pub returns-in-Ok : goal.returns-in-Ok
returns-in-Ok g c =
    rw c.in-Ok.is
    (g.met.T.Writable.after_both _ _ _ _ _ (rw c.in-Ok.is at c.write_used.ensures)
    c.write_sheet_written_rows.ensures
    ∙ ap (λ text. g.T.Writable.after text c.args.text.now) (written_under _ _ c.args.name.now c.in-Ok.used _))

pub returns-in-Err : goal.returns-in-Err
unfolding sheet_written_rows sheet_written_text
returns-in-Err g c =
    rw c.in-Err.is
    (g.met.T.Writable.after_both _ _ _ _ _ (rw c.in-Err.is at c.write_used.ensures)
    c.write_sheet_written_rows-in-Err.ensures)
