-- The invariant: the averages passed are filled in.
use mathlib.Core.Path.{ap}
use native.Mathlib.Omega.{arith}
use Rattle.numbers.specs.Sizes.{most_distributors}
use Rattle.numbers.specs.Units.{no_price}
use Rattle.numbers.specs.declared.units.PesoPrice.{PesoPrice}
use Rattle.numbers.proofs.ListLaws.{filled_none, filled_next}
use Rattle.fixing.proofs.average.divide_amounts.Goals as goal
use Rattle.fixing.proofs.average.divide_amounts.Invariants.{average_in}

pub loop-i-init : goal.loop-i-init
loop-i-init c = (
  omega arith,
  filled_none most_distributors no_price (average_in c.args.amounts c.args.energies),
)

pub loop-i-preserved : goal.loop-i-preserved
loop-i-preserved c = (
  omega arith,
  filled_next most_distributors no_price c.loop-i.i (average_in c.args.amounts c.args.energies) c.loop-i.averages _
      (omega (arith, c.requires.few)) c.loop-i.invariant.1
      (ap {B = PesoPrice} (λ x. record { 0 = x }) c.half_up.ensures),
)
