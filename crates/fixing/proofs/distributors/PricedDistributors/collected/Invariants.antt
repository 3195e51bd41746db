-- The invariant: what the distributors passed pay.
use mathlib.Core.Path.{◌≡◌}
use Prim.Native.Nat.{◌*◌}
use lib.ListN.{get_or}
use Rattle.numbers.specs.Bounded.{sum_below}
use Rattle.numbers.specs.Units.{no_price, no_energy}
use Rattle.fixing.proofs.distributors.PricedDistributors.collected.Given as goal

abbrev pub invariant-loop-i : goal.invariant-loop-i
invariant-loop-i l =
    (l.total ≡ sum_below l.i (λ j. (get_or l.prices j no_price).0 * (get_or l.self.energies j no_energy).0))
