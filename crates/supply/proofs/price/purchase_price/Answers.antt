-- The price it gives is the definition's.
use mathlib.Core.Path.{◌∙◌, ap}
use Rattle.supply.specs.Listed.{price_within}
use Rattle.supply.specs.Price.{purchase_of, line_purchase}
use Rattle.supply.proofs.price.purchase_price.Goals as goal

pub returns : goal.returns
unfolding line_purchase purchase_of
returns c = c.within.ensures ∙ ap (price_within c.args.most) c.half_up.ensures
