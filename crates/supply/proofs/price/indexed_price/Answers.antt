-- That of the line's base price and index factor.
use mathlib.Core.Path.{◌∙◌, ap}
use Rattle.supply.specs.Listed.{indexed_by, indexed_answer}
use Rattle.supply.proofs.price.indexed_price.Goals as goal

pub returns : goal.returns
unfolding indexed_answer
returns c = c.indexed_by.ensures ∙ ap (indexed_by 1000000 c.args.checked.line.base_price) c.index_factor.ensures
