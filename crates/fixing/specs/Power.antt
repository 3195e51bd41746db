-- The average power price of each distributor (W-204 of document 02). Assumes nothing.
use Rattle.std.specs.Prelude.{List, ℕ, get_or}
use Rattle.numbers.specs.Bounded.{filled_below}
use Rattle.numbers.specs.Units.{no_power}
use Rattle.numbers.specs.Sizes.{most_distributors}
use Rattle.numbers.specs.declared.units.PowerPrice.{PowerPrice}
use Rattle.fixing.specs.Average.{average_price}

-- the power price of each line
abbrev pub power_of : List PowerPrice → ℕ → ℕ
power_of prices j = (get_or prices j no_power).0

-- "each distributor's average, weighted by energy, half up", as of energy; the places past n are empty
unfoldable pub power_averages : ℕ → List PowerPrice → List ℕ → List PowerPrice
power_averages n prices lines =
    filled_below most_distributors no_power n (λ i. record { 0 = average_price (power_of prices) lines i })
