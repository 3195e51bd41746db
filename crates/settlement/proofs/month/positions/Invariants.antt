-- The invariant: the positions of those passed are written. A balance and an amount together fit.
use mathlib.Core.Path.{◌≡◌}
use Rattle.settlement.specs.Amount.{collected_amount}
use Rattle.settlement.specs.Settlement.{position_of}
use Rattle.settlement.specs.Month.{money_at, money_below}
use Rattle.settlement.proofs.month.positions.Given as goal

abbrev pub invariant-loop-i : goal.invariant-loop-i
invariant-loop-i l =
    (l.positions
    ≡ money_below l.i (position_of (money_at l.balances) (collected_amount l.charges l.readings l.losses)))
