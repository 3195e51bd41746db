-- The invariant: the rows before the i-th are written.
use Rattle.std.proofs.Common.{◌≡◌}
use Rattle.text.specs.Row.{row_of}
use Rattle.text.specs.Text.{text_below}
use Rattle.text.proofs.row.write_rows.Given as goal

abbrev pub invariant-loop-i : goal.invariant-loop-i
invariant-loop-i g l =
    l.text
    ≡ g.T.Writable.after
    (text_below l.i (row_of g.N.Decimal.shown g.C.Decimal.shown l.list l.width l.column))
    l.initial.text
