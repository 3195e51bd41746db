-- The invariant: the balances and transfers of those passed are written. A position and a transfer together fit.
use mathlib.Core.Path.{◌≡◌}
use lib.ListN.{get_or}
use lib.IntN.{sub_ℕ, ◌+ℤ◌}
use Rattle.settlement.specs.Month.{money_at, money_below}
use Rattle.settlement.proofs.month.moved.Given as goal

abbrev pub invariant-loop-i : goal.invariant-loop-i
invariant-loop-i l =
    (l.balances ≡ money_below l.i (λ j. money_at l.positions j +ℤ sub_ℕ (get_or l.received j 0) (get_or l.paid j 0))) ×
    (l.transfers ≡ money_below l.i (λ j. sub_ℕ (get_or l.received j 0) (get_or l.paid j 0)))
