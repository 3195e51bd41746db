-- The first number, then the others each after a blank; and the line end.
use Rattle.std.proofs.Common.{[], ◌∷◌, ◌∙◌, ap}
use Rattle.text.specs.Text.{line_end}
use Rattle.text.proofs.RowLaws.{line_none, line_some}
use Rattle.text.proofs.row.write_numbers_line.Goals as goal
use Rattle.text.proofs.row.write_numbers_line.Goals.{in-Some, in_default}

pub returns : goal.returns
returns g c =
    let both = g.met.T.Writable.after_both in
    let numbers = c.args.numbers.now in
    elim c.match-split_first.branch [
      | in-Some w ↦ rw (line_some g.N.Decimal.shown numbers _ _ w.in-Some.ensures.cases)
          (both _ (line_end ∷ []) _ _ _
          (w.text-is ∙ both _ _ _ _ _ w.write_decimal.ensures w.write_words.ensures)
          c.push.ensures)
      | in_default w ↦ rw (line_none g.N.Decimal.shown numbers w.in_default.ensures.cases)
          (c.push.ensures ∙ ap (g.T.Writable.after (line_end ∷ [])) w.text-is)
    ]
