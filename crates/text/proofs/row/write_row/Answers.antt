-- The number, the numbers of the list, that of the column and the line end.
use Rattle.std.proofs.Common.{[], ◌∷◌}
use Rattle.text.specs.Row.{row_text}
use Rattle.text.specs.Text.{line_end}
use Rattle.text.proofs.row.write_row.Goals as goal

pub returns : goal.returns
unfolding row_text
returns g c =
    let both = g.met.T.Writable.after_both in
    both _ (line_end ∷ []) _ _ _
    (both _ _ _ _ _
    (both _ _ _ _ _ c.write_decimal.ensures c.write_words.ensures)
    c.write_column.ensures)
    c.push.ensures
