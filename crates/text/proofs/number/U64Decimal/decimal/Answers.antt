-- A text of twenty bytes has room for the number.
use Rattle.std.proofs.Common.{[], ap, ◌∙◌, arith}
use Rattle.text.specs.Buffer.{written}
use Rattle.text.specs.Text.{decimal}
use Rattle.text.proofs.BufferLaws.{text_stands}
use Rattle.text.proofs.SizeLaws.{decimal_size}
use Rattle.text.proofs.number.U64Decimal.decimal.Goals as goal

pub returns : goal.returns
returns c =
    let x = c.args.self in
    c.write_to.ensures
    ∙ ap (written 20 (decimal x)) c.new-text.ensures
    ∙ text_stands 20 (decimal x) [] (omega (arith, decimal_size x))
