-- By the sign; a minus sign, then the size.
use Rattle.std.proofs.Common.{[], ◌∷◌, ap, ◌∙◌}
use mir.Facts.{to_z-of_z}
use Rattle.text.specs.Text.{decimal, minus}
use Rattle.text.proofs.IntegerLaws.{integer_above, integer_below}
use Rattle.text.proofs.number.I64Decimal.write_to.Goals as goal

pub returns-then-self-ge0 : goal.returns-then-self-ge0
returns-then-self-ge0 g c =
    let e = to_z-of_z c.ranges.self in
    c.write_to.ensures
    ∙ ap (λ text. g.T.Writable.after text c.args.text.now)
    (ap decimal (rw e at c.unsigned_abs.ensures.value) ∙ integer_above c.args.self (rw e at c.if-self-ge0.true))

pub returns : goal.returns
returns g c =
    let e = to_z-of_z c.ranges.self in
    g.met.T.Writable.after_both (minus ∷ []) (decimal c.unsigned_abs-2.result) _ _ _ c.push.ensures
    c.write_to-2.ensures
    ∙ ap (λ text. g.T.Writable.after text c.args.text.now)
    (ap (λ n. minus ∷ decimal n) (rw e at c.unsigned_abs-2.ensures.value)
    ∙ integer_below c.args.self (rw e at c.if-self-ge0.false))
