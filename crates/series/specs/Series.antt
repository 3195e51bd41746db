-- "Index months" of document 01: the table of series, the months that a term takes, a missing month; and the mean, of
-- W-202 of document 02. Series: 0 diesel, 1 coal, 2 gas, 3 CPI, 4 Brent, in ten-thousandths; months count from January
-- 2000, month 0. Assumes nothing.
use Rattle.std.specs.Prelude.{Bool, cond, ◌&&◌, ◌||◌, List, ℕ, ◌+◌, ◌-◌, ◌*◌, get_or, leb, ltb, eqb}
use Rattle.std.specs.Prelude.{Option, Some, None}
use Rattle.numbers.specs.Bounded.{sum_below, all_below, any_below, list_below}
use Rattle.numbers.specs.Rounding.{half_up}

-- "a table of 5 rows of 48 months, lent as 240 words, row by row"
abbrev pub series_count : ℕ
series_count = 5

abbrev pub month_count : ℕ
month_count = 48

abbrev pub word_count : ℕ
word_count = 240

-- "3 CPI"
abbrev pub cpi_series : ℕ
cpi_series = 3

-- "the top value is 99,999,999"
abbrev pub most_value : ℕ
most_value = 99999999

-- "Months are numbered 0 to 1,199"
abbrev pub last_month : ℕ
last_month = 1199

-- "window W (1, 6 or 9)"
unfoldable pub window_allowed : ℕ → Bool
window_allowed window = eqb window 1 || (eqb window 6 || eqb window 9)

-- row s of the lent words
unfoldable pub series_row : List ℕ → ℕ → List ℕ
series_row words s = list_below month_count (λ k. get_or words (s * month_count + k) 0)

-- the table that the lent words fill: word 48 * s + k stands in row s at month k
unfoldable pub series_table : List ℕ → List (List ℕ)
series_table words = list_below series_count (series_row words)

-- no value of the 240 is too large, used or not (cause 7)
unfoldable pub values_in_range : List ℕ → Bool
values_in_range words = all_below word_count (λ j. leb (get_or words j 0) most_value)

-- the value of a series, given by its row, in a month: 0, as for "not published", where the table does not reach it
unfoldable pub value_in : List ℕ → ℕ → ℕ → ℕ
value_in row first month =
    cond (leb first month && ltb (month - first) month_count) (get_or row (month - first) 0) 0

-- month k of a term with lag G in month t, counted back from t - G; none where it is below 0
unfoldable pub term_month : ℕ → ℕ → ℕ → Option ℕ
term_month t lag k = cond (leb (lag + k) t) (Some (t - (lag + k))) None

abbrev pub value_of : List ℕ → ℕ → Option ℕ → ℕ
value_of row first None = 0
value_of row first (Some month) = value_in row first month

-- the value in month k of a term, 0 where the month is missing
unfoldable pub term_value : List ℕ → ℕ → ℕ → ℕ → ℕ → ℕ
term_value row first t lag k = value_of row first (term_month t lag k)

-- "Zero means not published"; "A month below 0 or outside the table is missing too"
unfoldable pub window_missing : List ℕ → ℕ → ℕ → ℕ → ℕ → Bool
window_missing row first t lag window = any_below window (λ k. eqb (term_value row first t lag k) 0)

-- "A window's mean becomes sum × 100 / window, half up, in millionths" (W-202): the unit is millionths, that of a value
-- ten-thousandths. It stands in place of 01's "Its mean is sum/W half up".
unfoldable pub mean_of : ℕ → ℕ → ℕ
mean_of sum window = half_up (sum * 100) window

unfoldable pub window_mean : List ℕ → ℕ → ℕ → ℕ → ℕ → ℕ
window_mean row first t lag window = mean_of (sum_below window (term_value row first t lag)) window
