-- What a fixing of input of right lengths comes to where it is accepted: averages, average power prices, prices,
-- charges and sector charges. Assumes nothing.
use Rattle.std.specs.Prelude.{List, [], ℕ, Result}
use Rattle.numbers.specs.Checks.{AnswersBy}
use Rattle.numbers.specs.declared.refusal.Refusal.{Refusal}
use Rattle.numbers.specs.declared.units.PesoPrice.{PesoPrice}
use Rattle.numbers.specs.declared.units.PowerPrice.{PowerPrice}
use Rattle.numbers.specs.declared.units.Energy.{Energy}
use Rattle.fixing.specs.Limit.{charge, distributors}
use Rattle.fixing.specs.Prices.{fixed_prices, charge_list}
use Rattle.fixing.specs.Sector.{sector_charges}
use Rattle.fixing.specs.Input.{FixingInput, input_checks, input_averages, input_power, input_energies}
use Rattle.fixing.specs.declared.fix.Fixing.{Fixing}

-- averages and energies give the prices, these the charges, and these the charges of the sectors; "Prices, charges and
-- ledger are untouched by any power input that passes"
unfoldable pub accepted_fixing : ℕ → List PesoPrice → List PowerPrice → List Energy → List ℕ → Fixing
accepted_fixing n averages power energies sectors =
    record {
      averages = averages;
      power = power;
      prices = fixed_prices (distributors n averages energies);
      charges = charge_list (distributors n averages energies);
      sectors = sector_charges n (charge (distributors n averages energies)) sectors;
    }

-- what the input of a fixing comes to where it passes
unfoldable pub worked_fixing : ℕ → FixingInput → Fixing
worked_fixing n input =
    accepted_fixing n (input_averages n input) (input_power n input) (input_energies input) input.sectors

-- what the fixing of input promises: it is the definition's where the checks pass, else the refusal, with the number and
-- values of the checks
abbrev pub InputPromise : ℕ → FixingInput → Result Fixing Refusal → Type 0
InputPromise n input given = AnswersBy (λ _. []) given (input_checks n input) (worked_fixing n input)
