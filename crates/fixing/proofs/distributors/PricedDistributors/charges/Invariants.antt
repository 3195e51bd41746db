-- The invariant: the first places hold the charges, the others are empty.
use mathlib.Core.Path.{◌≡◌}
use mathlib.Core.List.{List}
use Prim.Native.Nat.{ℕ}
use lib.ListN.{get_or}
use lib.IntN.{ℤ, pos, sub_ℕ}
use Rattle.numbers.specs.Sizes.{most_distributors}
use Rattle.numbers.specs.Bounded.{filled_below}
use Rattle.numbers.specs.Units.{no_price}
use Rattle.numbers.specs.declared.units.PesoPrice.{PesoPrice}
use Rattle.fixing.proofs.distributors.PricedDistributors.charges.Given as goal

-- the charge of distributor j
abbrev pub charge_of : List PesoPrice → List PesoPrice → ℕ → ℤ
charge_of averages finals j = sub_ℕ (get_or finals j no_price).0 (get_or averages j no_price).0

abbrev pub invariant-loop-i : goal.invariant-loop-i
invariant-loop-i l =
    (l.charges ≡ filled_below most_distributors (pos 0) l.i (charge_of l.self.averages l.finals))
