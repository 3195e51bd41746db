-- The invariant: the first places hold the final prices, the others are empty.
use mathlib.Core.Path.{◌≡◌}
use mathlib.Core.List.{List}
use Prim.Native.Nat.{ℕ, ◌+◌, min}
use lib.ListN.{get_or}
use Rattle.numbers.specs.Sizes.{most_distributors}
use Rattle.numbers.specs.Bounded.{filled_below}
use Rattle.numbers.specs.Units.{no_price}
use Rattle.numbers.specs.declared.units.PesoPrice.{PesoPrice}
use Rattle.fixing.proofs.distributors.PricedDistributors.final_prices.Given as goal

-- the final price of distributor j
abbrev pub final : List PesoPrice → ℕ → ℕ → ℕ → PesoPrice
final averages limit surcharge j = record { 0 = min limit ((get_or averages j no_price).0 + surcharge) }

abbrev pub invariant-loop-i : goal.invariant-loop-i
invariant-loop-i l =
    (l.finals ≡ filled_below most_distributors no_price l.i (final l.self.averages l.limit.0 l.surcharge.0))
