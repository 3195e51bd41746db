-- What the functions past cause 6 require: its ranges as plain facts, of terms, lines and the numbers beside them.
-- Assumes nothing.
use Rattle.std.specs.Prelude.{true, List, ◌≡◌, ℕ, ◌≤◌, ◌<◌}
use Rattle.series.specs.Series.{series_count, most_value, last_month, window_allowed}
use Rattle.supply.specs.Line.{most_lines, most_terms, whole_weight, most_power_price, line_count, line_of, term_of}
use Rattle.supply.specs.Line.{term_used}
use Rattle.supply.specs.declared.line.Term.{Term}
use Rattle.supply.specs.declared.line.Line.{Line}
use Rattle.supply.specs.declared.market.FixingNumbers.{FixingNumbers}

pub record TermFacts (term : Term) : Type 0 where
  pub series : term.series < series_count
  pub weight : term.weight ≤ whole_weight
  pub lag : 1 ≤ term.lag
  pub lag_most : term.lag ≤ 12
  pub window : window_allowed term.window ≡ true
  pub base : 1 ≤ term.base_value
  pub base_most : term.base_value ≤ most_value

pub record LineFacts (line : Line) : Type 0 where
  pub base : 1 ≤ line.base_price
  pub base_most : line.base_price ≤ 1000000
  pub offer : 5000 ≤ line.offer_factor
  pub offer_most : line.offer_factor ≤ 20000
  pub purchase : 5000 ≤ line.purchase_factor
  pub purchase_most : line.purchase_factor ≤ 20000
  pub energy : 1 ≤ line.energy
  pub energy_most : line.energy ≤ 10000000
  pub terms : line.term_count ≤ most_terms
  pub power : line.power_base_price ≤ most_power_price
  pub term : (k : ℕ) → term_used line k ≡ true → TermFacts (term_of line k)

pub record CheckedLines (lines : List ℕ) : Type 0 where
  pub few : line_count lines ≤ most_lines
  pub facts : (j : ℕ) → j < line_count lines → LineFacts (line_of lines j)

-- what a power price in pesos is at most: 100,000,000 at a dollar of 200,000 hundredths of $
abbrev pub most_power_in_pesos : ℕ
most_power_in_pesos = 200000000000

pub record NumbersFacts (numbers : FixingNumbers) : Type 0 where
  pub dollar_most : numbers.dollar ≤ 200000
  pub factor_most : numbers.reference_factor ≤ 20000
  pub start : numbers.first_month ≤ last_month
