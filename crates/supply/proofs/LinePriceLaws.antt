-- What the prices of the lines come to: by the first check, by those after it, and with the number and values of their
-- checks. Assumes nothing.
use mathlib.Core.Path.{◌≡◌, sym, ap}
use mathlib.Core.List.{List, [], ◌∷◌}
use Rattle.std.specs.Prelude.{None, Result, Ok, Err}
use Prim.Native.Nat.{ℕ}
use Rattle.numbers.specs.Checks.{verdict_of}
use Rattle.numbers.specs.declared.refusal.Refusal.{Refusal}
use Rattle.numbers.specs.Refusal.{Verdict, answer_by}
use Rattle.numbers.proofs.CheckLaws.{FirstPass, AllTold, refused_first, passed_alone, all_passed, verdict_from}
use Rattle.numbers.proofs.CheckLaws.{answers_by, answer_passed, answer_refused}
use Rattle.supply.specs.Months.{lacks_month, first_missing, month_check}
use Rattle.supply.specs.Price.{term_mean, first_beyond, worked_prices, bounded_prices}
use Rattle.supply.specs.Price.{price_checks, table_checks, LinePricesPromise}
use Rattle.supply.specs.declared.market.FixingNumbers.{FixingNumbers}
use Rattle.supply.specs.declared.price.LinePrices.{LinePrices}
use Rattle.supply.proofs.MonthLaws.{month_told, months_passed}
use Rattle.supply.proofs.PriceLaws.{prices_told, bounds_passed}

module _ (table : List (List ℕ)) (numbers : FixingNumbers) (lines in_force : List ℕ) where
  abbrev worked : LinePrices
  worked = worked_prices (term_mean table numbers) numbers lines in_force

  -- the lines' prices by a verdict on them
  abbrev by : Verdict → Result LinePrices Refusal
  by verdict = answer_by verdict worked

  -- a month is missing
  pub months_refused : (refusal : Refusal) →
      verdict_of (month_check (lacks_month table numbers) lines ∷ []) ≡ Err refusal →
      Err refusal ≡ by (verdict_of (table_checks table numbers lines in_force))
  unfolding table_checks
  months_refused refusal h =
      sym (ap by (refused_first (month_check (lacks_month table numbers) lines) _ refusal h))

  -- none is
  module _ (h : verdict_of (month_check (lacks_month table numbers) lines ∷ []) ≡ Ok tt) where
    pub months_present : first_missing (lacks_month table numbers) lines ≡ None
    months_present =
        months_passed (lacks_month table numbers) lines (passed_alone (month_check (lacks_month table numbers) lines) h)

    pub months_priced : bounded_prices (term_mean table numbers) numbers lines in_force ≡ by
        (verdict_of (table_checks table numbers lines in_force))
    unfolding table_checks bounded_prices FirstPass
    months_priced =
        sym (ap by
        (verdict_from 1 (table_checks table numbers lines in_force)
        (passed_alone (month_check (lacks_month table numbers) lines) h, tt)))

  -- the checks have the numbers and values of their refusals
  pub table_told : AllTold (table_checks table numbers lines in_force)
  unfolding table_checks AllTold
  table_told = (month_told (lacks_month table numbers) lines, prices_told (term_mean table numbers) numbers lines in_force)

  pub prices_promised : (given : Result LinePrices Refusal) →
      given ≡ by (verdict_of (table_checks table numbers lines in_force)) →
      LinePricesPromise table numbers lines in_force given
  prices_promised given e = answers_by (λ _. []) (table_checks table numbers lines in_force) worked table_told given e

  -- where every check is passed: no line is out of bounds, and the lists have every line's prices
  pub passed_bounds : verdict_of (table_checks table numbers lines in_force) ≡ Ok tt →
      first_beyond (term_mean table numbers) numbers lines in_force ≡ None
  unfolding table_checks price_checks FirstPass
  passed_bounds h =
      bounds_passed (term_mean table numbers) numbers lines in_force
      (all_passed (table_checks table numbers lines in_force) h).1.0

  pub passed_prices : (prices : LinePrices) → LinePricesPromise table numbers lines in_force (Ok prices) →
      (verdict_of (table_checks table numbers lines in_force) ≡ Ok tt) × (prices ≡ worked)
  passed_prices prices promise = answer_passed worked prices _ (sym promise.answered)

  pub passed_refused : (refusal : Refusal) → LinePricesPromise table numbers lines in_force (Err refusal) →
      verdict_of (table_checks table numbers lines in_force) ≡ Err refusal
  passed_refused refusal promise = answer_refused worked refusal _ (sym promise.answered)
