-- What is found and priced from the list of means is what the table says.
use mathlib.Core.Path.{◌≡◌, sym, ◌∙◌, ap}
use mathlib.Core.List.{[], ◌∷◌}
use Rattle.numbers.specs.Checks.{verdict_of}
use Rattle.std.proofs.lemmas.Result.{err_from_is_err_and}
use Rattle.supply.specs.Listed.{listed_mean, listed_lacks}
use Rattle.supply.specs.Months.{lacks_month, month_check}
use Rattle.supply.specs.Price.{bounded_prices}
use Rattle.supply.proofs.ListedLaws.{check_listed, prices_listed}
use Rattle.supply.proofs.LinePriceLaws.{prices_promised, months_refused, months_present, months_priced}
use Rattle.supply.proofs.price.price_lines.Goals as goal
use Rattle.supply.proofs.price.price_lines.Goals.{After-search_months}

-- the search is that of the table
module _ (m : After-search_months) where
  searched : m.search_months.result ≡ verdict_of
      (month_check (lacks_month m.args.table m.args.numbers) m.args.lines.now ∷ [])
  searched =
      m.search_months.ensures
      ∙ ap (λ means. verdict_of (month_check (listed_lacks means) m.args.lines.now ∷ []))
      m.of-means.ensures
      ∙ ap (λ check. verdict_of (check ∷ []))
      (check_listed m.args.table m.args.numbers m.args.lines.now m.requires.lines_checked)

pub returns-in_err-search_months : goal.returns-in_err-search_months
returns-in_err-search_months c =
    let a = c.args in
    prices_promised a.table a.numbers a.lines.now a.in_force.now _
    (let p = err_from_is_err_and c.from_residual.result c.from_residual.ensures.1 in
    rw (p.1, p.2)
    (months_refused a.table a.numbers a.lines.now a.in_force.now _
    (sym (searched (goal.at.returns-in_err-search_months c).After-search_months) ∙ c.in_err-search_months.was)))

pub returns : goal.returns
returns c =
    let a = c.args in
    let present = sym (searched (goal.at.returns c).After-search_months) ∙ c.in_ok-search_months.was in
    prices_promised a.table a.numbers a.lines.now a.in_force.now _
    (c.bounded_prices.ensures
    ∙ ap (λ means. bounded_prices (listed_mean means) a.numbers a.lines.now a.in_force.now)
    c.of-means.ensures
    ∙ prices_listed a.table a.numbers a.lines.now c.requires.lines_checked
    (months_present a.table a.numbers a.lines.now a.in_force.now present) a.in_force.now
    ∙ months_priced a.table a.numbers a.lines.now a.in_force.now present)
