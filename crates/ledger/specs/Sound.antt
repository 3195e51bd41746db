-- "Sound" (a term of document 01, "The ledger", as W-205 and W-206 of document 02 restate it): one test, clause by
-- clause, of every bit pattern a ledger may have. Nothing else is soundness. Assumes nothing.
use Rattle.std.specs.Prelude.{Bool, cond, not, ◌&&◌, ◌||◌, List, ℕ, ◌+◌, ◌*◌, leb, ltb, eqb, ℤ}
use Rattle.numbers.specs.Bounded.{all_below}
use Rattle.numbers.specs.Signed.{within_size}
use Rattle.numbers.specs.Units.{between, bound_where}
use Rattle.numbers.specs.Sizes.{most_distributors, sector_count, sector_places}
use Rattle.numbers.specs.declared.units.Pesos.{Pesos}
use Rattle.series.specs.Series.{last_month}
use Rattle.fixing.specs.declared.sector.SectorCharges.{SectorCharges}
use Rattle.settlement.specs.Amount.{most_charge}
use Rattle.settlement.specs.Settlement.{most_position, one_sign}
use Rattle.settlement.specs.Month.{money_at}
use Rattle.ledger.specs.Calendar.{day_allowed}
use Rattle.ledger.specs.Ledger.{present_in, charge_in, count_at, any_settled}
use Rattle.ledger.specs.declared.ledger.Ledger.{Ledger}

-- the places where a sector may be present: "entries past n .. and everything unset are zero", so that without a fixing
-- kept there are none
unfoldable pub places_held : ℕ → Bool → ℕ
places_held n kept = bound_where kept (n * sector_count)

-- one sector's place, a sector being present at the first `held` alone: "charges within ±10,500,000", "charges of
-- absent sectors .. are zero"
unfoldable pub place_test : ℕ → Bool → ℤ → ℕ → Bool
place_test held present charge k = cond present (ltb k held && within_size most_charge charge) (within_size 0 charge)

unfoldable pub place_sound : ℕ → SectorCharges → ℕ → Bool
place_sound held force k = place_test held (present_in force k) (charge_in force k) k

unfoldable pub force_sound : ℕ → SectorCharges → Bool
force_sound held force = all_below sector_places (place_sound held force)

-- an older fixing is "sound by the same rules and only beside one in force"
unfoldable pub older_sound : ℕ → Bool → Bool → SectorCharges → Bool
older_sound n fixed kept older = force_sound (places_held n kept) older && (not kept || fixed)

-- unsound is a "kept day [that] lies outside the month of its fixing, or above 1 with no older fixing kept"; without a
-- fixing it is zero
unfoldable pub day_sound : Bool → ℕ → ℕ → Bool → Bool
day_sound fixed month day kept = cond fixed (day_allowed month day kept) (eqb day 0)

-- the fixing in force, the older one, and the first day
unfoldable pub fixings_sound : Ledger → Bool
fixings_sound ledger =
    force_sound (places_held ledger.n ledger.fixed) ledger.force
    && older_sound ledger.n ledger.fixed ledger.has_older ledger.older
    && day_sound ledger.fixed ledger.month ledger.day ledger.has_older

-- "everything unset [is] zero": without a fixing its month, without a settled month the last one
unfoldable pub unset_zero : Bool → ℕ → Bool → ℕ → Bool
unset_zero settled last fixed month = (fixed || eqb month 0) && (settled || eqb last 0)

-- "month numbers are at most 1,199"; "once a month is settled, .. the fixing's month [is] at most last+1"
unfoldable pub months_sound : Bool → ℕ → ℕ → Bool
months_sound settled last month =
    leb last last_month && leb month last_month && (not settled || leb month (last + 1))

-- one count: "each is at most last+1"; zero past n
unfoldable pub count_test : ℕ → ℕ → ℕ → ℕ → Bool
count_test n last count i = leb count (bound_where (ltb i n) (last + 1))

unfoldable pub counts_sound : ℕ → ℕ → List ℕ → Bool
counts_sound n last counts = all_below most_distributors (λ i. count_test n last (count_at counts i) i)

-- one balance: "balances within ±10^15"; "a balance with count zero is zero", and so it is past n, where the counts are
unfoldable pub balance_test : ℕ → ℤ → Bool
balance_test count balance = within_size (bound_where (not (eqb count 0)) most_position) balance

unfoldable pub balance_sound : List ℕ → List Pesos → ℕ → Bool
balance_sound counts balances i = balance_test (count_at counts i) (money_at balances i)

unfoldable pub each_balance : List ℕ → List Pesos → Bool
each_balance counts balances = all_below most_distributors (balance_sound counts balances)

-- and "never of both signs"
unfoldable pub balances_sound : List ℕ → List Pesos → Bool
balances_sound counts balances = each_balance counts balances && one_sign most_distributors (money_at balances)

-- "Sound: n is in its range; .."
unfoldable pub sound : Ledger → Bool
sound ledger =
    between 1 most_distributors ledger.n
    && fixings_sound ledger
    && unset_zero (any_settled ledger) ledger.last ledger.fixed ledger.month
    && months_sound (any_settled ledger) ledger.last ledger.month
    && counts_sound ledger.n ledger.last ledger.counts
    && balances_sound ledger.counts ledger.balances
