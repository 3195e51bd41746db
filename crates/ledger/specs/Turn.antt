-- Which month is due ("The ledger" of document 01; cause 4), by whether a month is settled and which comes next.
-- Assumes nothing.
use Rattle.std.specs.Prelude.{Bool, cond, not, ◌&&◌, ◌||◌, ℕ, leb, eqb}
use Rattle.series.specs.Series.{last_month}

-- "With months settled, a fixing's month is last+1; before that, 0 to 1,199"
unfoldable pub fixing_turn : Bool → ℕ → ℕ → Bool
fixing_turn settled next month = leb month last_month && (not settled || eqb month next)

-- "The first settled month is the fixing's, later ones last+1"; "with no month settled and no fixing, no turn is due to
-- a settlement"
unfoldable pub settlement_turn : Bool → ℕ → Bool → ℕ → ℕ → Bool
settlement_turn settled next fixed fixing_month month =
    leb month last_month && cond settled (eqb month next) (not fixed || eqb month fixing_month)
