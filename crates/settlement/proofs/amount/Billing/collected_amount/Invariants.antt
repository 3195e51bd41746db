-- The invariant: the sum's bits are those of the sum over the sectors passed.
use mathlib.Core.Path.{◌≡◌}
use mathlib.Core.List.{List}
use Prim.Native.Nat.{ℕ}
use lib.IntN.{ℤ, ◌*ℤ◌}
use Rattle.numbers.specs.Signed.{signed_sum_below}
use Rattle.settlement.specs.Amount.{charge_at, energy_with_losses}
use Rattle.settlement.proofs.amount.Billing.collected_amount.Given as goal

-- what a sector adds
abbrev pub sector : List ℤ → List ℕ → List ℕ → ℕ → ℕ → ℤ
sector charges readings losses i s = charge_at charges i s *ℤ energy_with_losses readings losses i s

abbrev pub invariant-loop-s : goal.invariant-loop-s
invariant-loop-s l =
    l.sum ≡ signed_sum_below l.s (sector l.charges l.self.readings.now l.self.losses.now l.i)
