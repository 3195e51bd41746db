-- The invariant: the first places hold the final prices, the others are empty.
use Rattle.numbers.specs.Sizes.{most_distributors}
use Rattle.numbers.specs.Units.{no_price}
use Rattle.numbers.proofs.ListLaws.{filled_none, filled_next}
use native.Mathlib.Omega.{arith}
use Rattle.fixing.proofs.distributors.PricedDistributors.final_prices.Goals as goal
use Rattle.fixing.proofs.distributors.PricedDistributors.final_prices.Invariants.{final}

pub loop-i-init : goal.loop-i-init
loop-i-init c = filled_none most_distributors no_price _

pub loop-i-preserved : goal.loop-i-preserved
loop-i-preserved c =
    filled_next most_distributors no_price c.loop-i.i
    (final c.args.self.averages c.args.limit.0 c.args.surcharge.0) _ _ (omega arith)
    c.loop-i.invariant c.final_price.ensures
