-- The list of all means that the code keeps: of every series, lag and window, worked in one month. proofs/MeanLaws
-- shows that each is its window's mean, and that it is 0 where a month is missing and nowhere else. Assumes nothing.
use Rattle.std.specs.Prelude.{cond, List, [], ℕ, ◌+◌, ◌-◌, ◌*◌, ◌/◌, ◌%◌, get_or, eqb}
use Rattle.numbers.specs.Bounded.{list_below}
use Rattle.series.specs.Series.{window_missing, window_mean}

-- 5 series, 12 lags, 3 windows
abbrev pub mean_count : ℕ
mean_count = 180

-- the windows in their order; the place of each is its quarter
unfoldable pub window_of : ℕ → ℕ
window_of place = cond (eqb place 0) 1 (cond (eqb place 1) 6 9)

-- where the mean of a series, lag and window stands
unfoldable pub mean_place : ℕ → ℕ → ℕ → ℕ
mean_place s lag window = s * 36 + (lag - 1) * 3 + window / 4

-- the mean of a window, or 0 where a month of it is missing
unfoldable pub mean_or_zero : List ℕ → ℕ → ℕ → ℕ → ℕ → ℕ
mean_or_zero row first t lag window = cond (window_missing row first t lag window) 0 (window_mean row first t lag window)

-- the mean at a place of the list, and the list
unfoldable pub mean_worked : List (List ℕ) → ℕ → ℕ → ℕ → ℕ
mean_worked table first t place =
    mean_or_zero (get_or table (place / 36) []) first t (place / 3 % 12 + 1) (window_of (place % 3))

unfoldable pub mean_list : List (List ℕ) → ℕ → ℕ → List ℕ
mean_list table first t = list_below mean_count (mean_worked table first t)

-- what stands in the list for a series, lag and window
unfoldable pub mean_at : List ℕ → ℕ → ℕ → ℕ → ℕ
mean_at means s lag window = get_or means (mean_place s lag window) 0
