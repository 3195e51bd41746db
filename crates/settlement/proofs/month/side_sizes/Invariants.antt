-- The invariant: the sizes of those passed are written, 0 for those of the other side.
use mathlib.Core.Path.{◌≡◌}
use Rattle.settlement.specs.Settlement.{side_size}
use Rattle.settlement.specs.Month.{money_at, sizes_below}
use Rattle.settlement.proofs.month.side_sizes.Given as goal

abbrev pub invariant-loop-i : goal.invariant-loop-i
invariant-loop-i l =
    (l.sizes ≡ sizes_below l.i (side_size l.negative (money_at l.positions)))
