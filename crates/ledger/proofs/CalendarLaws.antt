-- Known months and first days, and how long a month may be. Assumes nothing.
use mathlib.Core.Path.{◌≡◌, refl}
use mathlib.Core.Bool.{Bool, true, false, cond, ◌&&◌}
use Prim.Native.Nat.{ℕ, ◌≤◌, ◌%◌}
use native.Mathlib.Omega.{arith}
use lib.Dec.{leb, eqb}
use lib.ListN.{get_or}
use borrow.Author.Tests.{leb-true}
use Rattle.numbers.specs.Bounded.{all_below}
use Rattle.numbers.specs.Units.{between}
use Rattle.numbers.proofs.TestLaws.{all_at}
use Rattle.ledger.specs.Calendar.{is_leap_year, year_of, common_days, days_of, day_allowed}
use Rattle.ledger.specs.Required.{most_days}

-- February 2000, 2001, 2004, 2096 and 2100, April and December 2000
pub known_months : (days_of 1 ≡ 29)
    × (days_of 13 ≡ 28)
    × (days_of 49 ≡ 29)
    × (days_of 1153 ≡ 29)
    × (days_of 1201 ≡ 28)
    × (days_of 3 ≡ 30)
    × (days_of 11 ≡ 31)
unfolding days_of is_leap_year
known_months = (refl, refl, refl, refl, refl, refl, refl)

-- and known first days: of February 2001 the first and the last alone and beside an older fixing, none, and one beyond
pub known_days : (day_allowed 13 1 false ≡ true)
    × (day_allowed 13 28 false ≡ false)
    × (day_allowed 13 28 true ≡ true)
    × (day_allowed 13 0 true ≡ false)
    × (day_allowed 13 29 true ≡ false)
unfolding day_allowed between days_of is_leap_year
known_days = (refl, refl, refl, refl, refl)

common_most : all_below 12 (λ k. leb (get_or common_days k 0) most_days) ≡ true
unfolding all_below
common_most = refl

pub days_most : (month : ℕ) → days_of month ≤ most_days
unfolding days_of
days_most month = go (eqb (month % 12) 1 && is_leap_year (year_of month))
  where
    go : (b : Bool) → cond b 29 (get_or common_days (month % 12) 0) ≤ most_days
    go true = omega arith
    go false =
        leb-true _ _ (all_at 12 (λ k. leb (get_or common_days k 0) most_days) common_most (month % 12) (omega arith))
