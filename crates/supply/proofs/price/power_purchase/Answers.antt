-- Each step is the definition's; one that is out of bounds is the last.
use mathlib.Core.Path.{◌≡◌, ◌∙◌, sym, ap}
use Rattle.supply.specs.Line.{most_power_price, power_term, term_of}
use Rattle.supply.specs.Listed.{listed_mean, indexed_by}
use Rattle.supply.specs.Price.{term_ratio}
use Rattle.supply.proofs.PriceLaws.{power_used, indexed_most, power_stopped, power_worked}
use Rattle.supply.proofs.price.power_purchase.Goals as goal
use Rattle.supply.proofs.price.power_purchase.Goals.{After-indexed_by}

-- the indexed price is that of the ratio
indexed : (c : After-indexed_by) →
    c.indexed_by.result ≡ indexed_by most_power_price c.args.checked.line.power_base_price
    (term_ratio (listed_mean c.args.means.now.values) (term_of c.args.checked.line power_term))
indexed c =
    c.indexed_by.ensures
    ∙ ap (indexed_by most_power_price c.args.checked.line.power_base_price) c.term_ratio-ratio.ensures

pub term_ratio-ratio-requires : goal.term_ratio-ratio-requires
term_ratio-ratio-requires c =
    c.args.checked.facts.term power_term (power_used c.args.checked.line)

pub purchase_price-requires : goal.purchase_price-requires
purchase_price-requires c = indexed_most most_power_price _ _ _ (sym c.indexed_by.ensures ∙ c.in_ok-indexed.was)

pub returns-in_err-indexed : goal.returns-in_err-indexed
returns-in_err-indexed c =
    c.from_residual.ensures
    ∙ sym (power_stopped _ c.args.checked.line
    (sym (indexed (goal.at.returns-in_err-indexed c).After-indexed_by) ∙ c.in_err-indexed.was))

pub returns : goal.returns
returns c =
    c.purchase_price.ensures
    ∙ power_worked _ c.args.checked.line c.in_ok-indexed.indexed
    (sym (indexed (goal.at.returns c).After-indexed_by) ∙ c.in_ok-indexed.was)
