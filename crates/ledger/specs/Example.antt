-- The ledgers and calls of class examples 6, 9 and 10 of document 01: "the print", a fixing of three distributors whose
-- lines have no terms, and two months settled after it; with "power inputs that pass" (W-204 of document 02).
-- Assumes nothing.
use Rattle.std.specs.Prelude.{false, List, [], ◌∷◌, ◌++◌, ℕ, ◌*◌, replicate, pos}
use Rattle.supply.specs.declared.market.FixingNumbers.{FixingNumbers}
use Rattle.settlement.specs.Example.{in_sector_zero, billed_readings, even_losses}
use Rattle.ledger.specs.Ledger.{opening_ledger}
use Rattle.ledger.specs.Fix.{FixingCall, fixing_call_of, fixing_ledger}
use Rattle.ledger.specs.Settle.{SettlementCall, settlement_call_of, settlement_ledger}
use Rattle.ledger.specs.declared.ledger.Ledger.{Ledger}

-- a line of no terms: distributor, base price, factors 10,000, energy; its power base price is 10,000, and its power
-- term takes the CPI of the month before over 10,000
unfoldable pub plain_line : ℕ → ℕ → ℕ → List ℕ
plain_line distributor base energy =
    (distributor ∷ base ∷ 10000 ∷ 10000 ∷ energy ∷ []) ++ (replicate 21 0 ++ (10000 ∷ 1 ∷ 1 ∷ 10000 ∷ []))

-- a table in which CPI alone is published, and only in its first month
unfoldable pub plain_series : List ℕ
plain_series = replicate 144 0 ++ (10000 ∷ replicate 95 0)

unfoldable pub plain_numbers : FixingNumbers
plain_numbers = record { month = 1; day = 1; dollar = 100000; reference_factor = 10000; first_month = 0 }

-- a fixing in month 1 of n distributors, of plain lines at D 100,000 and F 10,000: their references are their base
-- prices
unfoldable pub plain_call : ℕ → List ℕ → List ℕ → FixingCall
plain_call n lines sectors =
    fixing_call_of false plain_numbers plain_series lines sectors [] (replicate (n * 3) (pos 0)) (replicate n 0)

-- "the print": base prices 100,000, 83,000, 60,000 and energies 10, 10, 11, sector 0 alone present
unfoldable pub print_call : FixingCall
print_call =
    plain_call 3 (plain_line 0 100000 10 ++ (plain_line 1 83000 10 ++ plain_line 2 60000 11))
    (in_sector_zero 0 10000 10000 10000)

unfoldable pub print_ledger : Ledger
print_ledger = fixing_ledger (opening_ledger 3) print_call

-- example 9: "billed AT 1,000 each"
unfoldable pub first_billing : SettlementCall
first_billing = settlement_call_of 1 (billed_readings 1000 1000 1000) even_losses (replicate 3 (pos 0))

-- example 10: "Then 0, 1,000, 1,000"
unfoldable pub second_billing : SettlementCall
second_billing = settlement_call_of 2 (billed_readings 0 1000 1000) even_losses (replicate 3 (pos 0))

-- the ledger after example 9
unfoldable pub first_ledger : Ledger
first_ledger = settlement_ledger print_ledger first_billing
