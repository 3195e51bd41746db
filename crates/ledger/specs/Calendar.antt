-- "Days follow the Gregorian calendar" (W-206 of document 02): the days of a month, month 0 being January 2000, and the
-- first day of a fixing. Assumes nothing.
use Rattle.std.specs.Prelude.{Bool, cond, not, ◌&&◌, ◌||◌, List, [], ◌∷◌, ℕ, ◌+◌, ◌/◌, ◌%◌, eqb, get_or}
use Rattle.numbers.specs.Units.{between}

-- every fourth year is a leap year; of the years that end a century, every fourth one
unfoldable pub is_leap_year : ℕ → Bool
is_leap_year year = eqb (year % 4) 0 && (not (eqb (year % 100) 0) || eqb (year % 400) 0)

abbrev pub year_of : ℕ → ℕ
year_of month = 2000 + month / 12

-- the days of January to December in a common year
abbrev pub common_days : List ℕ
common_days = 31 ∷ 28 ∷ 31 ∷ 30 ∷ 31 ∷ 30 ∷ 31 ∷ 31 ∷ 30 ∷ 31 ∷ 30 ∷ 31 ∷ []

-- and those of a month: February has 29 in a leap year
unfoldable pub days_of : ℕ → ℕ
days_of month = cond (eqb (month % 12) 1 && is_leap_year (year_of month)) 29 (get_or common_days (month % 12) 0)

-- a first day: "1 meaning the whole month"; it is "in its month", and above 1 only with an older fixing beside it
unfoldable pub day_allowed : ℕ → ℕ → Bool → Bool
day_allowed month day beside = between 1 (days_of month) day && (eqb day 1 || beside)
