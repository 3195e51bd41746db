-- A factor that is too large gives no price, another the definition's.
use mathlib.Core.Path.{◌∙◌, ap}
use borrow.Author.Tests.{lt-leb, le-leb}
use Rattle.supply.specs.Listed.{price_within, indexed_by}
use Rattle.supply.specs.Price.{indexed_of, indexed_within}
use Rattle.supply.proofs.price.indexed_by.Goals as goal

pub returns-then-factor-gt-MOST_INDEX_FACTOR : goal.returns-then-factor-gt-MOST_INDEX_FACTOR
unfolding indexed_by indexed_within
returns-then-factor-gt-MOST_INDEX_FACTOR c = rw (lt-leb _ _ c.if-factor-gt-MOST_INDEX_FACTOR.true)

pub returns : goal.returns
unfolding indexed_by indexed_within price_within indexed_of
returns c =
    rw (le-leb _ _ c.if-factor-gt-MOST_INDEX_FACTOR.false)
    (c.within.ensures ∙ ap (price_within c.args.most) c.half_up.ensures)
