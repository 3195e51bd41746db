-- What the functions of this crate require, as plain facts. Assumes nothing.
use Rattle.std.specs.Prelude.{List, ℕ, ◌+◌, ◌*◌, ◌^◌, ◌≤◌, ◌<◌, get_or, nat_abs}
use Rattle.numbers.specs.Sizes.{most_distributors, sector_count}
use Rattle.numbers.specs.Units.{no_price}
use Rattle.numbers.specs.declared.units.PesoPrice.{PesoPrice}
use Rattle.series.specs.Series.{last_month}
use Rattle.fixing.specs.declared.sector.SectorCharges.{SectorCharges}
use Rattle.settlement.specs.Amount.{most_charge}
use Rattle.ledger.specs.Ledger.{charge_in, count_at}

-- prices whose words are written: each fits a signed word
pub record PricesSmall (averages finals : List PesoPrice) : Type 0 where
  pub average : (i : ℕ) → (get_or averages i no_price).0 < 2 ^ 62
  pub final : (i : ℕ) → (get_or finals i no_price).0 < 2 ^ 62

-- no month is longer
abbrev pub most_days : ℕ
most_days = 31

-- charges of n distributors that may be divided by the days before and those that remain: those of a sound ledger
pub record Divided (n days before : ℕ) (old new : SectorCharges) : Type 0 where
  pub few : n ≤ most_distributors
  pub short : days ≤ most_days
  pub some : before < days
  pub old_within : (k : ℕ) → k < n * sector_count → nat_abs (charge_in old k) ≤ most_charge
  pub new_within : (k : ℕ) → k < n * sector_count → nat_abs (charge_in new k) ≤ most_charge

-- counts that may be raised: those of a sound ledger
pub record CountsWithin (n : ℕ) (counts : List ℕ) : Type 0 where
  pub few : n ≤ most_distributors
  pub within : (i : ℕ) → i < n → count_at counts i ≤ last_month + 1
