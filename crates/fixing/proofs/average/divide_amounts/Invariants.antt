-- The invariant: the averages passed are filled in.
use mathlib.Core.Path.{◌≡◌}
use mathlib.Core.List.{List}
use Prim.Native.Nat.{ℕ, ◌≤◌}
use lib.ListN.{get_or}
use Rattle.numbers.specs.Sizes.{most_distributors}
use Rattle.numbers.specs.Bounded.{filled_below}
use Rattle.numbers.specs.Rounding.{half_up}
use Rattle.numbers.specs.Units.{no_price, no_energy, no_total}
use Rattle.numbers.specs.declared.units.PesoPrice.{PesoPrice}
use Rattle.numbers.specs.declared.units.Energy.{Energy}
use Rattle.numbers.specs.declared.units.UnsignedPesos.{UnsignedPesos}
use Rattle.fixing.proofs.average.divide_amounts.Given as goal

abbrev pub average_in : List UnsignedPesos → List Energy → ℕ → PesoPrice
average_in amounts energies i = record { 0 = half_up (get_or amounts i no_total).0 (get_or energies i no_energy).0 }

abbrev pub invariant-loop-i : goal.invariant-loop-i
invariant-loop-i l =
    (l.i ≤ l.n) × (l.averages ≡ filled_below most_distributors no_price l.i (average_in l.amounts l.energies))
