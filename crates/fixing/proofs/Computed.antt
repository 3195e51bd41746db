-- One name that opens the definitions of this crate and of those below it, for examples that hold by computation:
-- a new definition that they compute with is named here. Assumes nothing.
use Prim.Native.Nat.{ℕ}
use Rattle.supply.proofs.Computed.{supply_computed}
use Rattle.fixing.specs.Average.{own_part, own_sum, supplied_energy, lines_amount, average_price, has_line}
use Rattle.fixing.specs.Average.{everyone_supplied, energy_list, average_list}
use Rattle.fixing.specs.Fixing.{accepted_fixing, worked_fixing}
use Rattle.fixing.specs.Input.{input_checks, input_verdict, input_references, input_power_prices, input_power}
use Rattle.fixing.specs.Input.{input_averages, input_energies}
use Rattle.fixing.specs.Limit.{contract_total, total_energy, limit, sum_inside, sum_outside, round_surcharge}
use Rattle.fixing.specs.Limit.{above_limit, capped_after, joins_after, any_joins_after, any_above, rounds_before_last}
use Rattle.fixing.specs.Limit.{rounds, capped, surcharge, final_price, charge, collected, residue}
use Rattle.fixing.specs.Power.{power_averages}
use Rattle.fixing.specs.Prices.{final_prices, charge_list, fixed_prices}
use Rattle.fixing.specs.Sector.{sector_present, has_sector, sectors_allowed, sector_charge, filled_places}
use Rattle.fixing.specs.Sector.{place_charge, sector_charges, no_charges}

unfoldable pub fixing_computed : ℕ
unfolding supply_computed own_part own_sum supplied_energy lines_amount average_price has_line everyone_supplied energy_list
    average_list accepted_fixing worked_fixing input_checks input_verdict input_references
    input_power_prices input_power power_averages input_averages input_energies contract_total total_energy limit sum_inside
    sum_outside round_surcharge above_limit
    capped_after joins_after any_joins_after any_above rounds_before_last rounds capped surcharge final_price charge
    collected residue final_prices charge_list fixed_prices sector_present has_sector sectors_allowed sector_charge
    filled_places place_charge sector_charges no_charges
fixing_computed = 0
