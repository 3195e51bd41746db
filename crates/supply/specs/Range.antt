-- The ranges of "Supply lines" of document 01, as the test that cause 6 makes of D, F, the first month and every word
-- of every line, its power words among them (W-204 of document 02), and of the prices in force (W-201). Assumes
-- nothing.
use Rattle.std.specs.Prelude.{Bool, cond, ◌&&◌, ◌||◌, List, ℕ, leb, ltb, eqb}
use Rattle.numbers.specs.Bounded.{sum_below, all_below}
use Rattle.numbers.specs.Units.{between, all_between}
use Rattle.series.specs.Series.{series_count, most_value, last_month, window_allowed}
use Rattle.supply.specs.Line.{most_terms, whole_weight, most_power_price, power_term, line_count, line_of}
use Rattle.supply.specs.Line.{term_of}
use Rattle.supply.specs.declared.line.Term.{Term}
use Rattle.supply.specs.declared.line.Line.{Line}
use Rattle.supply.specs.declared.market.FixingNumbers.{FixingNumbers}

-- "0 distributor, below n; 1 base price, 1 to 1,000,000; 2 offer factor and 3 purchase factor, each 5,000 to 20,000
-- ten-thousandths; 4 energy, 1 to 10,000,000; 5 term count, 0 to 4"
unfoldable pub head_in_range : ℕ → Line → Bool
head_in_range n line =
    ltb line.distributor n
    && between 1 1000000 line.base_price
    && between 5000 20000 line.offer_factor
    && between 5000 20000 line.purchase_factor
    && between 1 10000000 line.energy
    && leb line.term_count most_terms

-- "series 0 to 4, weight 1 to 10,000, lag, window, base value 1 to 99,999,999"; "lag G (1 to 12)"
unfoldable pub term_in_range : Term → Bool
term_in_range term =
    ltb term.series series_count
    && between 1 whole_weight term.weight
    && between 1 12 term.lag
    && window_allowed term.window
    && between 1 most_value term.base_value

-- "Unused terms are all zero"
unfoldable pub term_unused : Term → Bool
term_unused term =
    eqb term.series 0
    && eqb term.weight 0
    && eqb term.lag 0
    && eqb term.window 0
    && eqb term.base_value 0

-- a term below the count is in range, one past it is unused
unfoldable pub term_allowed : Term → Bool → Bool
term_allowed term used = cond used (term_in_range term) (term_unused term)

unfoldable pub terms_allowed : Line → Bool
terms_allowed line = all_below most_terms (λ k. term_allowed (term_of line k) (ltb k line.term_count))

-- "Weights add up to 10,000 if the count isn't 0"; that of an unused term is zero
unfoldable pub weight_total : Line → ℕ
weight_total line = sum_below most_terms (λ k. (term_of line k).weight)

unfoldable pub weights_allowed : Line → Bool
weights_allowed line = eqb line.term_count 0 || eqb (weight_total line) whole_weight

-- "a power base price, 1 to 100,000,000 .., and one CPI term (lag, window, base value) under a term's ranges and rules"
unfoldable pub power_in_range : Line → Bool
power_in_range line = between 1 most_power_price line.power_base_price && term_in_range (term_of line power_term)

unfoldable pub line_in_range : ℕ → Line → Bool
line_in_range n line = (head_in_range n line && power_in_range line) && (terms_allowed line && weights_allowed line)

unfoldable pub lines_in_range : ℕ → List ℕ → Bool
lines_in_range n lines = all_below (line_count lines) (λ j. line_in_range n (line_of lines j))

-- "Dollar D: 1 to 200,000 hundredths of $. Reference factor F: 5,000 to 20,000"; "first month (above 1,199)"
unfoldable pub numbers_in_range : FixingNumbers → Bool
numbers_in_range numbers =
    between 1 200000 numbers.dollar
    && between 5000 20000 numbers.reference_factor
    && leb numbers.first_month last_month

-- cause 6 is met where this is false; "the indexed price in force, 1 to 1,000,000", "out of range is 6"
unfoldable pub input_in_range : ℕ → FixingNumbers → List ℕ → List ℕ → Bool
input_in_range n numbers lines in_force =
    numbers_in_range numbers && lines_in_range n lines && all_between 1 1000000 in_force
