-- The presences and charges that a month is billed under, "the decree divides a month by days" (W-206 of document 02).
-- Assumes nothing.
use Rattle.std.specs.Prelude.{Bool, cond, ◌&&◌, ◌||◌, ℕ, ◌-◌, ◌*◌, ltb, eqb, ℤ, pos, ◌+ℤ◌, ◌*ℤ◌}
use Rattle.numbers.specs.Rounding.{half_away}
use Rattle.numbers.specs.Sizes.{sector_count}
use Rattle.fixing.specs.Sector.{filled_places}
use Rattle.fixing.specs.declared.sector.SectorCharges.{SectorCharges}
use Rattle.ledger.specs.Calendar.{days_of}
use Rattle.ledger.specs.Ledger.{present_in, charge_in}
use Rattle.ledger.specs.declared.ledger.Ledger.{Ledger}

-- "(old × days before + new × remaining days) / days of the month, half away"
unfoldable pub split_charge : ℕ → ℕ → ℤ → ℤ → ℤ
split_charge days before old new = half_away (old *ℤ pos before +ℤ new *ℤ pos (days - before)) days

-- "In a split month a sector present in either is present"
unfoldable pub either_present : SectorCharges → SectorCharges → ℕ → Bool
either_present old new k = present_in old k || present_in new k

-- those of n distributors
unfoldable pub split_charges : ℕ → ℕ → ℕ → SectorCharges → SectorCharges → SectorCharges
split_charges n days before old new =
    filled_places (n * sector_count) (either_present old new)
    (λ k. split_charge days before (charge_in old k) (charge_in new k))

-- whether a month is split: "the fixing's month", with days before its first day
unfoldable pub is_split : ℕ → ℕ → ℕ → Bool
is_split fixing_month day month = eqb month fixing_month && ltb 1 day

-- what a month is billed under, of n distributors: in a split month both fixings, in any other the one in force alone
unfoldable pub charges_for : ℕ → ℕ → ℕ → SectorCharges → SectorCharges → ℕ → SectorCharges
charges_for n fixing_month day older force month =
    cond (is_split fixing_month day month) (split_charges n (days_of fixing_month) (day - 1) older force) force

unfoldable pub billed_under : Ledger → ℕ → SectorCharges
billed_under ledger month = charges_for ledger.n ledger.month ledger.day ledger.older ledger.force month
