-- The list of all means says of a term what the table says: its mean, and by a 0 that a month is missing. So a search
-- and prices worked from the list are those of the table. Assumes nothing.
use mathlib.Core.Path.{◌≡◌, ◌∙◌, ap, ap₂}
use mathlib.Core.Bool.{false}
use mathlib.Core.List.{List, []}
use Rattle.std.specs.Prelude.{None}
use Prim.Native.Nat.{ℕ, ◌≤◌, ◌<◌}
use lib.Dec.{eqb}
use lib.ListN.{get_or}
use Rattle.numbers.specs.Bounded.{any_below}
use Rattle.numbers.specs.Required.{ValuesWithin}
use Rattle.numbers.specs.Units.{no_price, no_power}
use Rattle.numbers.specs.declared.units.PowerPrice.{PowerPrice}
use Rattle.numbers.proofs.TestLaws.{any_none, any_same}
use Rattle.numbers.proofs.FirstLaws.{first_same}
use Rattle.numbers.proofs.ListLaws.{filled_same}
use Rattle.series.specs.Means.{mean_count, mean_place, mean_or_zero, mean_list, mean_at}
use Rattle.series.specs.Required.{most_mean}
use Rattle.series.proofs.SeriesLaws.{window_size}
use Rattle.series.proofs.MeanLaws.{mean_published, zero_missing, place_below, mean_listed}
use Rattle.supply.specs.Line.{most_lines, line_count, line_of, term_of}
use Rattle.supply.specs.Months.{lacks_month, first_missing, month_check, missing_at}
use Rattle.supply.specs.Listed.{listed_mean, listed_lacks}
use Rattle.supply.specs.Price.{term_mean, price_in_force, moved, answer_at, price_or, reference_price, reference_list}
use Rattle.supply.specs.Price.{beyond_at, beyond_in, first_beyond, bounds_check, any_moved, any_line_moved}
use Rattle.supply.specs.Price.{power_peso_of, line_power, power_price, power_list, price_checks}
use Rattle.supply.specs.Price.{worked_prices, bounded_prices}
use Rattle.supply.specs.Required.{TermFacts, CheckedLines}
use Rattle.supply.specs.declared.line.Term.{Term}
use Rattle.supply.specs.declared.market.FixingNumbers.{FixingNumbers}
use Rattle.supply.proofs.MonthLaws.{EveryTerm, never_missing, none_missing, missing_same}
use Rattle.supply.proofs.PriceLaws.{indexed_same, price_same, power_same, allowed_same}

-- a mean of the list is at most that of the top value
pub listed_most : (means : List ℕ) → ValuesWithin most_mean means → (term : Term) → listed_mean means term ≤ most_mean
unfolding listed_mean mean_at
listed_most means ok term = ok.most (mean_place term.series term.lag term.window)

-- where no mean of the list is 0, no term lacks a month
pub none_listed : (means lines : List ℕ) → CheckedLines lines →
    any_below mean_count (λ k. eqb (get_or means k 0) 0) ≡ false →
    first_missing (listed_lacks means) lines ≡ None
unfolding listed_lacks listed_mean mean_at
none_listed means lines checked h =
    never_missing (listed_lacks means) lines
    (λ j p k q used.
    let f = (checked.facts j p).term k used in
    any_none mean_count (λ i. eqb (get_or means i 0) 0) h (mean_place _ _ _)
    (place_below _ _ _ f.series f.lag f.lag_most f.window))

-- the list of a table
module _ (table : List (List ℕ)) (numbers : FixingNumbers) where
  abbrev means : List ℕ
  means = mean_list table numbers.first_month numbers.month

  module _ (term : Term) (f : TermFacts term) where
    listed : listed_mean means term ≡ mean_or_zero (get_or table term.series []) numbers.first_month numbers.month
        term.lag term.window
    unfolding listed_mean
    listed =
        mean_listed term.series term.lag term.window f.series f.lag f.lag_most f.window table
        numbers.first_month numbers.month

    listed_lacks_lem : listed_lacks means term ≡ lacks_month table numbers term
    unfolding listed_lacks lacks_month
    listed_lacks_lem =
        ap (λ m. eqb m 0) listed ∙ zero_missing (get_or table term.series []) _ _ _ _
        (window_size term.window f.window).0

    listed_mean_lem : lacks_month table numbers term ≡ false → listed_mean means term ≡ term_mean table numbers term
    unfolding lacks_month term_mean
    listed_mean_lem h = listed ∙ mean_published (get_or table term.series []) _ _ _ _ h

  module _ (lines : List ℕ) (checked : CheckedLines lines) where
    months_listed : first_missing (listed_lacks means) lines ≡ first_missing (lacks_month table numbers) lines
    months_listed =
        missing_same (listed_lacks means) (lacks_month table numbers) lines
        (λ j p k q used. listed_lacks_lem (term_of (line_of lines j) k) ((checked.facts j p).term k used))

    pub check_listed : month_check (listed_lacks means) lines ≡ month_check (lacks_month table numbers) lines
    unfolding month_check
    check_listed = ap (λ o. record { number = 10; met = missing_at o }) months_listed

    -- where no month is missing
    module _ (present : first_missing (lacks_month table numbers) lines ≡ None) where
      term_same : EveryTerm lines (λ term. listed_mean means term ≡ term_mean table numbers term)
      term_same j p k q used =
          listed_mean_lem (term_of (line_of lines j) k) ((checked.facts j p).term k used)
          (none_missing (lacks_month table numbers) lines present j p k q used)

      power_listed_lem : power_list (listed_mean means) numbers lines ≡ power_list (term_mean table numbers) numbers lines
      unfolding power_list power_price line_power
      power_listed_lem =
          filled_same most_lines no_power (line_count lines) (power_price (listed_mean means) numbers lines)
          (power_price (term_mean table numbers) numbers lines)
          (λ j p. ap {B = PowerPrice} (λ x. record { 0 = power_peso_of x numbers.dollar })
          (power_same (listed_mean means) (term_mean table numbers) (line_of lines j) (term_same j p)))

      module _ (in_force : List ℕ) where
        answer_listed : (j : ℕ) → j < line_count lines →
            answer_at (listed_mean means) numbers lines in_force j ≡ answer_at (term_mean table numbers) numbers lines
            in_force j
        unfolding answer_at
        answer_listed j p =
            price_same (listed_mean means) (term_mean table numbers) (line_of lines j) (term_same j p) numbers
            (price_in_force in_force j)

        beyond_listed : first_beyond (listed_mean means) numbers lines in_force ≡ first_beyond (term_mean table numbers)
            numbers lines in_force
        unfolding first_beyond beyond_in
        beyond_listed =
            first_same (beyond_in (listed_mean means) numbers lines in_force)
            (beyond_in (term_mean table numbers) numbers lines in_force) (line_count lines)
            (λ j p. ap₂ (beyond_at j) (answer_listed j p)
            (allowed_same (listed_mean means) (term_mean table numbers) (line_of lines j) (term_same j p)))

        moved_listed : any_line_moved (listed_mean means) lines in_force ≡ any_line_moved (term_mean table numbers) lines
            in_force
        unfolding any_moved any_line_moved
        moved_listed =
            any_same (line_count lines) _ _
            (λ j p. ap (moved (price_in_force in_force j))
            (indexed_same (listed_mean means) (term_mean table numbers) (line_of lines j) (term_same j p)))

        references_listed : reference_list (listed_mean means) numbers lines in_force ≡ reference_list
            (term_mean table numbers) numbers lines in_force
        unfolding reference_list reference_price
        references_listed =
            filled_same most_lines no_price (line_count lines) (reference_price (listed_mean means) numbers lines in_force)
            (reference_price (term_mean table numbers) numbers lines in_force)
            (λ j p. ap price_or (answer_listed j p))

        pub prices_listed : bounded_prices (listed_mean means) numbers lines in_force ≡ bounded_prices
            (term_mean table numbers) numbers lines in_force
        unfolding bounded_prices worked_prices price_checks bounds_check
        prices_listed = rw (beyond_listed, moved_listed, references_listed, power_listed_lem)
