-- The invariant: the readings and loss factors of each distributor passed are allowed.
use mathlib.Core.Bool.{◌&&◌}
use Rattle.numbers.proofs.TestLaws.{Tested}
use Rattle.settlement.specs.Amount.{readings_allowed, losses_allowed}
use Rattle.settlement.proofs.amount.billing_in_range.Given as goal

abbrev pub invariant-loop-i : goal.invariant-loop-i
invariant-loop-i l = Tested l.n (λ k. readings_allowed l.present l.readings k && losses_allowed l.losses k) l.i
