-- What a fixing is given beside the ledger, and the checks that it makes of it, causes 6 to 11 of document 01 and 14 of
-- document 02, each over the whole input. Their order is the list `input_checks`. Assumes nothing.
use Rattle.std.specs.Prelude.{◌≡◌, Bool, List, ◌∷◌, ℕ}
use Rattle.std.specs.Prelude.{Option}
use Rattle.numbers.specs.Checks.{Check, check, verdict_of}
use Rattle.numbers.specs.declared.refusal.Refusal.TheVariants.{OutOfRange, ValueTooLarge, WrongSector, NoLine}
use Rattle.numbers.specs.Refusal.{Verdict}
use Rattle.numbers.specs.declared.units.PesoPrice.{PesoPrice}
use Rattle.numbers.specs.declared.units.PowerPrice.{PowerPrice}
use Rattle.numbers.specs.declared.units.Energy.{Energy}
use Rattle.series.specs.Series.{series_table, values_in_range}
use Rattle.supply.specs.Line.{line_of, SameEnergyWords}
use Rattle.supply.specs.Range.{input_in_range}
use Rattle.supply.specs.Months.{Place, lacks_month, first_missing}
use Rattle.supply.specs.Price.{term_mean, line_power, first_beyond, any_line_moved, table_checks, reference_list}
use Rattle.supply.specs.Price.{power_list}
use Rattle.supply.specs.declared.line.Term.{Term}
use Rattle.supply.specs.declared.market.FixingNumbers.{FixingNumbers}
use Rattle.fixing.specs.Limit.{Distributors, distributors}
use Rattle.fixing.specs.Average.{average_price, everyone_supplied, energy_list, average_list}
use Rattle.fixing.specs.Power.{power_averages}
use Rattle.fixing.specs.Sector.{sectors_allowed}

-- the numbers of a fixing, the 240 words of the series, the lines, the sector factors; and of an interim fixing, "line
-- by line, the indexed price in force": a regular one has none, and its list is empty
pub record FixingInput : Type 0 where
  pub numbers : FixingNumbers
  pub series : List ℕ
  pub lines : List ℕ
  pub sectors : List ℕ
  pub in_force : List ℕ

-- an input from its parts
abbrev pub input_of : FixingNumbers → List ℕ → List ℕ → List ℕ → List ℕ → FixingInput
input_of numbers series lines sectors in_force =
    record { numbers = numbers; series = series; lines = lines; sectors = sectors; in_force = in_force }

-- inputs that agree in all but the lines' power words
pub record SameButPower (one other : FixingInput) : Type 0 where
  pub numbers : one.numbers ≡ other.numbers
  pub series : one.series ≡ other.series
  pub lines : SameEnergyWords one.lines other.lines
  pub sectors : one.sectors ≡ other.sectors
  pub in_force : one.in_force ≡ other.in_force

-- the table that the series fill, and the mean of each term in it
abbrev pub index_table : FixingInput → List (List ℕ)
index_table input = series_table input.series

abbrev pub input_mean : FixingInput → Term → ℕ
input_mean input = term_mean (index_table input) input.numbers

-- the tests of causes 6 and 9
abbrev pub ranged : ℕ → FixingInput → Bool
ranged n input = input_in_range n input.numbers input.lines input.in_force

abbrev pub supplied : ℕ → FixingInput → Bool
supplied n input = everyone_supplied n input.lines

-- the first term with a missing month, the first line out of bounds, and whether any line moved
abbrev pub missing_place : FixingInput → Option Place
missing_place input = first_missing (lacks_month (index_table input) input.numbers) input.lines

abbrev pub beyond_line : FixingInput → Option ℕ
beyond_line input = first_beyond (input_mean input) input.numbers input.lines input.in_force

abbrev pub some_moved : FixingInput → Bool
some_moved input = any_line_moved (input_mean input) input.lines input.in_force

-- "Checks go by ascending number, each over the whole input": D, F, first month, a line's word or a price in force;
-- series value too large; sector factor, or no sector; distributor without line; then those that need the index table
unfoldable pub input_checks : ℕ → FixingInput → List Check
input_checks n input =
    check 6 (ranged n input) OutOfRange
    ∷ check 7 (values_in_range input.series) ValueTooLarge
    ∷ check 8 (sectors_allowed n input.sectors) WrongSector
    ∷ check 9 (supplied n input) NoLine
    ∷ table_checks (index_table input) input.numbers input.lines input.in_force

unfoldable pub input_verdict : ℕ → FixingInput → Verdict
input_verdict n input = verdict_of (input_checks n input)

-- the references of an input's lines
unfoldable pub input_references : FixingInput → List PesoPrice
input_references input = reference_list (input_mean input) input.numbers input.lines input.in_force

-- the power prices of an input's lines, and the averages of n distributors
unfoldable pub input_power_prices : FixingInput → List PowerPrice
input_power_prices input = power_list (input_mean input) input.numbers input.lines

unfoldable pub input_power : ℕ → FixingInput → List PowerPrice
input_power n input = power_averages n (input_power_prices input) input.lines

-- the average power price of distributor i: "weighted by energy, half up"
abbrev pub input_power_average : FixingInput → ℕ → ℕ
input_power_average input =
    average_price (λ j. line_power (input_mean input) input.numbers (line_of input.lines j)) input.lines

-- averages of n distributors and energies, from an input's lines
unfoldable pub input_averages : ℕ → FixingInput → List PesoPrice
input_averages n input = average_list n (input_references input) input.lines

unfoldable pub input_energies : FixingInput → List Energy
input_energies input = energy_list input.lines

-- the distributors of an input: averages and energies of their lines
unfoldable pub input_distributors : ℕ → FixingInput → Distributors
input_distributors n input = distributors n (input_averages n input) (input_energies input)
