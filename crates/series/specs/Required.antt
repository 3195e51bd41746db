-- What the functions of this crate require of a table, as plain facts. Assumes nothing.
use Rattle.std.specs.Prelude.{List, [], ℕ, ◌*◌, ◌≤◌, get_or}
use Rattle.numbers.specs.Required.{ValuesWithin}
use Rattle.series.specs.Series.{most_value, last_month}

-- what a mean is at most: that of a window whose values are all the top value
abbrev pub most_mean : ℕ
most_mean = most_value * 100

pub record TableInRange (table : List (List ℕ)) : Type 0 where
  pub row : (s : ℕ) → ValuesWithin most_value (get_or table s [])

-- a lag and a window, and the table's first month, as the test of the lines leaves them
pub record WindowInRange (first lag window : ℕ) : Type 0 where
  pub start : first ≤ last_month
  pub lagged : lag ≤ 12
  pub some : 1 ≤ window
  pub few : window ≤ 9
