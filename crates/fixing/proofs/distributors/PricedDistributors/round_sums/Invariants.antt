-- The invariant: the three sums of the distributors passed.
use mathlib.Core.Bool.{Bool}
use mathlib.Core.List.{List}
use Prim.Native.Nat.{ℕ, ◌+◌}
use lib.ListN.{get_or}
use lib.Dec.{ltb}
use Rattle.numbers.specs.Units.{no_price, no_energy}
use Rattle.numbers.specs.declared.units.PesoPrice.{PesoPrice}
use Rattle.fixing.proofs.PassLaws.{Sums}
use Rattle.fixing.proofs.distributors.PricedDistributors.round_sums.Given as goal

-- whether distributor j is in the set
abbrev pub above : List PesoPrice → ℕ → ℕ → ℕ → Bool
above averages limit raise j = ltb limit ((get_or averages j no_price).0 + raise)

abbrev pub invariant-loop-i : goal.invariant-loop-i
invariant-loop-i l =
    Sums (above l.self.averages l.limit.0 l.raise.0) (λ j. (get_or l.self.averages j no_price).0)
    (λ j. (get_or l.self.energies j no_energy).0) l.i l.paid l.inside l.outside
