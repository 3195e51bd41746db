-- A text of twenty bytes has room for the number.
use Rattle.std.proofs.Common.{[], ap, ◌∙◌, arith}
use mir.Facts.{to_z-of_z}
use Rattle.text.specs.Buffer.{written}
use Rattle.text.specs.Text.{integer}
use Rattle.text.proofs.BufferLaws.{text_stands}
use Rattle.text.proofs.IntegerLaws.{integer_few}
use Rattle.text.proofs.number.I64Decimal.decimal.Goals as goal

pub returns : goal.returns
returns c =
    let x = c.args.self in
    (rw (to_z-of_z c.ranges.self) at c.write_to.ensures)
    ∙ ap (written 20 (integer x)) c.new-text.ensures
    ∙ text_stands 20 (integer x) [] (omega (arith, integer_few x c.ranges.self))
