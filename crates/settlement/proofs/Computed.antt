-- One name that opens the definitions of this crate and of those below it, for examples that hold by computation:
-- a new definition that they compute with is named here. Assumes nothing.
use Prim.Native.Nat.{ℕ}
use Rattle.numbers.proofs.Computed.{numbers_computed}
use Rattle.settlement.specs.Amount.{reading_allowed, sector_allowed, readings_allowed}
use Rattle.settlement.specs.Amount.{losses_allowed, billing_in_range, high_net, low_net, energy_with_losses}
use Rattle.settlement.specs.Amount.{collected_amount}
use Rattle.settlement.specs.Example.{in_sector_zero, billed, billed_readings, even_losses}
use Rattle.settlement.specs.Month.{money_below, position_list, settled_month}
use Rattle.settlement.specs.Settlement.{position_of, positions_in_range, owing, owed, transferred, paid, received}
use Rattle.settlement.specs.Settlement.{transfer, new_balance, one_sign}
use Rattle.settlement.specs.Share.{side_total, share_floor, share_remainder, pesos_left, comes_before, rank}
use Rattle.settlement.specs.Share.{odd_peso, share}

unfoldable pub settlement_computed : ℕ
unfolding numbers_computed reading_allowed sector_allowed readings_allowed losses_allowed billing_in_range
    high_net low_net energy_with_losses collected_amount in_sector_zero billed billed_readings even_losses money_below
    position_list settled_month position_of positions_in_range owing owed transferred paid received transfer new_balance
    one_sign side_total share_floor share_remainder pesos_left comes_before rank odd_peso share
settlement_computed = 0
