-- The invariant: the averages passed are filled in.
use mathlib.Core.Path.{◌≡◌}
use mathlib.Core.List.{List}
use Prim.Native.Nat.{ℕ}
use lib.ListN.{get_or}
use Rattle.numbers.specs.Bounded.{filled_below}
use Rattle.numbers.specs.Rounding.{half_up}
use Rattle.numbers.specs.Sizes.{most_distributors}
use Rattle.numbers.specs.Units.{no_power, no_energy}
use Rattle.numbers.specs.declared.units.PowerPrice.{PowerPrice}
use Rattle.numbers.specs.declared.units.Energy.{Energy}
use Rattle.fixing.proofs.power.power_averages.Given as goal

-- the average of a distributor from its amount
abbrev pub average_in : List ℕ → List Energy → ℕ → PowerPrice
average_in amounts energies i = record { 0 = half_up (get_or amounts i 0) (get_or energies i no_energy).0 }

abbrev pub invariant-loop-i : goal.invariant-loop-i
invariant-loop-i l = l.averages ≡ filled_below most_distributors no_power l.i (average_in l.amounts l.energies)
