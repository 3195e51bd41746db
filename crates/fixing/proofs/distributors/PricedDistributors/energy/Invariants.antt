-- The invariant: the energy of the distributors passed.
use lib.ListN.{get_or}
use Rattle.numbers.specs.Units.{no_energy}
use Rattle.numbers.proofs.SumLaws.{Summed}
use Rattle.fixing.proofs.distributors.PricedDistributors.energy.Given as goal

abbrev pub invariant-loop-i : goal.invariant-loop-i
invariant-loop-i l = Summed l.self.n (λ j. (get_or l.self.energies j no_energy).0) l.total l.i
