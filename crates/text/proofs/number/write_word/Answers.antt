-- A blank, then the number.
use Rattle.std.proofs.Common.{[], ◌∷◌}
use Rattle.text.specs.Text.{blank}
use Rattle.text.proofs.number.write_word.Goals as goal

pub returns : goal.returns
returns g c =
    g.met.T.Writable.after_both (blank ∷ []) (g.N.Decimal.shown c.args.x) _ _ _ c.push.ensures c.write_decimal.ensures
