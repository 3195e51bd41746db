-- What the functions of this crate require, as plain facts: the lists' lengths, the ranges of readings, loss factors
-- and charges past cause 12, and money and sizes within their bounds. Assumes nothing.
use Rattle.std.specs.Prelude.{List, ◌≡◌, ℕ, ◌*◌, ◌≤◌, ◌<◌, get_or, length, ℤ, nat_abs}
use Rattle.numbers.specs.Sizes.{most_distributors, sector_count}
use Rattle.numbers.specs.declared.units.Pesos.{Pesos}
use Rattle.settlement.specs.Amount.{most_reading, most_charge, reading_of, charge_at, high_loss_of, low_loss_of}
use Rattle.settlement.specs.Settlement.{most_position}
use Rattle.settlement.specs.Month.{money_at, sizes_below}

pub record BillingLists (n : ℕ) (readings losses : List ℕ) : Type 0 where
  pub few : n ≤ most_distributors
  pub read : length readings ≡ n * 32
  pub lost : length losses ≡ n * 2

pub record BillingFacts (readings losses : List ℕ) (i : ℕ) : Type 0 where
  pub reading : (s k : ℕ) → s < sector_count → k < 4 → reading_of readings i s k ≤ most_reading
  pub high_most : high_loss_of losses i ≤ 20000
  pub low_most : low_loss_of losses i ≤ 20000

pub record BilledReadings (n : ℕ) (readings losses : List ℕ) : Type 0 where
  pub lists : BillingLists n readings losses
  pub facts : (i : ℕ) → i < n → BillingFacts readings losses i

pub record Billed (n : ℕ) (charges : List ℤ) (readings losses : List ℕ) : Type 0 where
  pub billed : BilledReadings n readings losses
  pub bounded : (i s : ℕ) → i < n → s < sector_count → nat_abs (charge_at charges i s) ≤ most_charge

-- balances that a position can be worked from, and positions that pass cause 13
pub record MoneyWithin (n : ℕ) (list : List Pesos) : Type 0 where
  pub few : n ≤ most_distributors
  pub within : (i : ℕ) → i < n → nat_abs (money_at list i) ≤ most_position

-- a side of n sizes within 10^15, those past n empty
pub record Side (n : ℕ) (sizes : List ℕ) : Type 0 where
  pub few : n ≤ most_distributors
  pub within : (i : ℕ) → i < n → get_or sizes i 0 ≤ most_position
  pub past : sizes ≡ sizes_below n (λ i. get_or sizes i 0)
