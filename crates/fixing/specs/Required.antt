-- What the functions of this crate require, as plain facts: of lines past cause 6 and past cause 11, of sums to divide,
-- of sectors to charge, and of an input past causes 3 and 9. Assumes nothing.
use Rattle.std.specs.Prelude.{◌≡◌, true, List, ℕ, ◌*◌, ◌^◌, ◌≤◌, ◌<◌, get_or, length, ℤ, pos, nat_abs}
use Rattle.numbers.specs.Units.{no_price, no_power, no_energy, no_total, least_price, most_price}
use Rattle.numbers.specs.Sizes.{most_distributors, sector_count}
use Rattle.numbers.specs.declared.units.PesoPrice.{PesoPrice}
use Rattle.numbers.specs.declared.units.PowerPrice.{PowerPrice}
use Rattle.numbers.specs.declared.units.Energy.{Energy}
use Rattle.numbers.specs.declared.units.UnsignedPesos.{UnsignedPesos}
use Rattle.series.specs.Series.{word_count, values_in_range}
use Rattle.supply.specs.Line.{most_lines, line_count, line_of}
use Rattle.supply.specs.Required.{CheckedLines, most_power_in_pesos}
use Rattle.fixing.specs.Limit.{Distributors, limit}
use Rattle.fixing.specs.Average.{everyone_supplied}
use Rattle.fixing.specs.Sector.{most_factor, factor_at, sectors_allowed}
use Rattle.fixing.specs.Input.{FixingInput, ranged, supplied}

-- checked lines, each of one of the most distributors
pub record OwnLines (lines : List ℕ) : Type 0 where
  pub checked : CheckedLines lines
  pub distributor : (j : ℕ) → j < line_count lines → (line_of lines j).distributor < most_distributors

-- a price for each line, of at most 2,000,000
pub record PricedLines (prices : List PesoPrice) (lines : List ℕ) : Type 0 where
  pub own : OwnLines lines
  pub priced : (j : ℕ) → j < line_count lines → (get_or prices j no_price).0 ≤ most_price

-- a power price for each line
pub record PowerPricedLines (prices : List PowerPrice) (lines : List ℕ) : Type 0 where
  pub own : OwnLines lines
  pub priced : (j : ℕ) → j < line_count lines → (get_or prices j no_power).0 ≤ most_power_in_pesos

-- an amount of power, at prices of at most so much, and the energy that it is divided by
pub record PowerWithin (amount energy : ℕ) : Type 0 where
  pub some : 1 ≤ energy
  pub most : energy ≤ 2560000000
  pub priced : amount ≤ most_power_in_pesos * energy

-- lines that passed every check: each price within the bounds of a peso price, each distributor with a line
pub record AcceptedLines (n : ℕ) (prices : List PesoPrice) (lines : List ℕ) : Type 0 where
  pub some : 1 ≤ n
  pub few : n ≤ most_distributors
  pub priced : PricedLines prices lines
  pub least : (j : ℕ) → j < line_count lines → least_price ≤ (get_or prices j no_price).0
  pub supplied : everyone_supplied n lines ≡ true

-- amounts and energies that can be divided
pub record Divisible (n : ℕ) (amounts : List UnsignedPesos) (energies : List Energy) : Type 0 where
  pub few : n ≤ most_distributors
  pub small : (i : ℕ) → i < n → (get_or amounts i no_total).0 < 2 ^ 62
  pub some : (i : ℕ) → i < n → 1 ≤ (get_or energies i no_energy).0
  pub most : (i : ℕ) → i < n → (get_or energies i no_energy).0 < 2 ^ 62

-- prices of n distributors, each of at most so much
abbrev pub PricesWithin : ℕ → ℕ → List PesoPrice → Type 0
PricesWithin most n prices = (i : ℕ) → i < n → (get_or prices i no_price).0 ≤ most

-- the limit of distributors
abbrev pub Limited : Distributors → PesoPrice → Type 0
Limited d price = price.0 ≡ limit d

-- what the charges of sectors are worked from: checked factors, and charges of at most 2,000,000 in size
pub record ChargedSectors (n : ℕ) (charges : List ℤ) (sectors : List ℕ) : Type 0 where
  pub few : n ≤ most_distributors
  pub lent : length sectors ≡ n * sector_count
  pub factors : (k : ℕ) → k < n * sector_count → factor_at sectors k ≤ most_factor
  pub charge : (i : ℕ) → i < n → nat_abs (get_or charges i (pos 0)) ≤ most_price

-- lists of the lengths that cause 3 asks for
pub record RightLengths (n : ℕ) (input : FixingInput) : Type 0 where
  pub some : 1 ≤ n
  pub few : n ≤ most_distributors
  pub values : length input.series ≡ word_count
  pub lines : line_count input.lines ≤ most_lines
  pub factors : length input.sectors ≡ n * sector_count

-- input that passed causes 6 to 9
pub record CheckedInput (n : ℕ) (input : FixingInput) : Type 0 where
  pub lengths : RightLengths n input
  pub ranges : ranged n input ≡ true
  pub small : values_in_range input.series ≡ true
  pub sectored : sectors_allowed n input.sectors ≡ true
  pub everyone : supplied n input ≡ true
