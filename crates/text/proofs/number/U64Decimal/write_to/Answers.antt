-- The kit's digits are the decimal text.
use Rattle.std.proofs.Common.{ap, ◌∙◌}
use Rattle.text.proofs.DecimalLaws.{fewest_decimal}
use Rattle.text.proofs.number.U64Decimal.write_to.Goals as goal

pub returns : goal.returns
returns g c =
    let size = c.decimal-size in
    let digits = size.ensures.digits ∙ fewest_decimal c.args.self size.result c.ranges.self.fits size.ensures.len in
    c.push_all.ensures ∙ ap (λ text. g.T.Writable.after text c.args.text.now) digits
