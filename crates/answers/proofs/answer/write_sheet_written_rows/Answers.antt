-- The bytes where the sheet was accepted, and whether the rest was changed.
use Rattle.std.proofs.Common.{[], ◌∙◌, sym}
use Rattle.std.proofs.lemmas.List.{take_rest}
use Rattle.answers.specs.Answer.{sheet_written_rows}
use Rattle.answers.proofs.answer.write_sheet_written_rows.Goals as goal
use Rattle.answers.proofs.answer.write_sheet_written_rows.Goals.{then-accepted, else-accepted}

pub returns : goal.returns
unfolding sheet_written_rows
returns g c =
    let rest = take_rest c.args.sheet.now c.args.used in
    let changed = rw (c.is_unwritten.ensures, rest) at c.write_changed.ensures in
    elim c.if-accepted.branch [
      | then-accepted w ↦ rw w.if-accepted.true
          (g.met.T.Writable.after_both _ _ _ _ _ (w.text-is ∙ w.write_numbers_line.ensures) changed)
      | else-accepted w ↦ rw w.if-accepted.false (g.met.T.Writable.after_both [] _ _ _ _
          (w.text-is ∙ sym (g.met.T.Writable.after_none c.args.text.now)) changed)
    ]
