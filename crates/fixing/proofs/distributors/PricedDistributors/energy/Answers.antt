-- The invariant: the energy of the distributors passed.
use mathlib.Core.Path.{ap}
use Prim.Native.Nat.{ℕ}
use native.Mathlib.Omega.{arith}
use lib.ListN.{get_or}
use Rattle.numbers.specs.Units.{no_energy}
use Rattle.numbers.proofs.SumLaws.{summed_none, summed_more, summed_all}
use Rattle.numbers.proofs.SearchLaws.{sum_next}
use Rattle.fixing.specs.Limit.{total_energy}
use Rattle.fixing.proofs.distributors.PricedDistributors.energy.Goals as goal

pub loop-i-init : goal.loop-i-init
loop-i-init c = summed_none _ _

pub overflow_add-total : goal.overflow_add-total
unfolding total_energy
overflow_add-total c =
    omega (
      arith,
      sum_next c.loop-i.i c.args.self.n (λ j. (get_or c.args.self.energies j no_energy).0)
          (omega arith),
      c.args.self.range.total,
    )

pub loop-i-preserved : goal.loop-i-preserved
loop-i-preserved c = summed_more c.loop-i.invariant (omega arith)

pub returns : goal.returns
unfolding total_energy
returns c = ap (λ (x : ℕ). record { 0 = x }) (summed_all c.loop-i.invariant (omega arith))
