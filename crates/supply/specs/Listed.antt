-- What the lists that the code keeps say: of all means, and of the lines' indexed prices and power purchase prices.
-- proofs/ListedLaws shows that the means are the terms' and 0 where a month is missing, and nowhere else;
-- proofs/PriceLaws that a line has no prices where a factor, ratio or price is out of bounds. Assumes nothing.
use Rattle.std.specs.Prelude.{Bool, cond, ◌&&◌, List, ℕ, eqb}
use Rattle.std.specs.Prelude.{Option, Some, None}
use Rattle.numbers.specs.Bounded.{filled_below}
use Rattle.numbers.specs.Units.{between}
use Rattle.series.specs.Means.{mean_at}
use Rattle.supply.specs.Line.{most_lines, line_count, line_of}
use Rattle.supply.specs.Price.{indexed_of, index_factor, line_indexed, indexed_within, indexed_allowed}
use Rattle.supply.specs.Price.{power_purchase, power_allowed}
use Rattle.supply.specs.declared.line.Term.{Term}
use Rattle.supply.specs.declared.line.Line.{Line}
use Rattle.supply.specs.declared.price.LineWords.{LineWords}

unfoldable pub listed_mean : List ℕ → Term → ℕ
listed_mean means term = mean_at means term.series term.lag term.window

unfoldable pub listed_lacks : List ℕ → Term → Bool
listed_lacks means term = eqb (listed_mean means term) 0

-- a price that lies within its bounds
unfoldable pub price_within : ℕ → ℕ → Option ℕ
price_within most price = cond (between 1 most price) (Some price) None

-- a base price indexed by a factor so, and a line's indexed price
unfoldable pub indexed_by : ℕ → ℕ → ℕ → Option ℕ
indexed_by most base factor = cond (indexed_within most base factor) (Some (indexed_of base factor)) None

unfoldable pub indexed_answer : (Term → ℕ) → Line → Option ℕ
indexed_answer mean line = indexed_by 1000000 line.base_price (index_factor mean line)

-- the power purchase price of a line
unfoldable pub power_answer : (Term → ℕ) → Line → Option ℕ
power_answer mean line = cond (power_allowed mean line) (Some (power_purchase mean line)) None

-- both, and those of all lines; the places past them are empty
unfoldable pub line_words : (Term → ℕ) → Line → Option LineWords
line_words mean line =
    cond (indexed_allowed mean line && power_allowed mean line)
    (Some (record { indexed = line_indexed mean line; purchase = power_purchase mean line }))
    None

unfoldable pub price_words : (Term → ℕ) → List ℕ → List (Option LineWords)
price_words mean lines = filled_below most_lines None (line_count lines) (λ j. line_words mean (line_of lines j))
