-- The product of weight and ratio is below 10^18.
use mathlib.Core.Path.{◌≡◌, ap}
use Prim.Native.Nat.{◌*◌}
use Rattle.supply.specs.Price.{weighted_ratio}
use Rattle.supply.proofs.ListedLaws.{listed_most}
use Rattle.supply.proofs.PriceLaws.{weighted_most}
use Rattle.supply.specs.Listed.{listed_mean}
use native.Mathlib.Omega.{arith}
use Rattle.supply.proofs.price.weighted_ratio.Goals as goal
use Rattle.supply.proofs.price.weighted_ratio.Goals.{After-term_ratio}

product : (c : After-term_ratio) →
    c.args.term.weight * c.term_ratio.result ≡ weighted_ratio
    (listed_mean c.args.means.now.values) c.args.term c.args.used
unfolding weighted_ratio
product c = rw c.if-used.true (ap (λ r. c.args.term.weight * r) c.term_ratio.ensures)

pub overflow_mul-result : goal.overflow_mul-result
overflow_mul-result c =
    omega (
      arith,
      product (goal.at.overflow_mul-result c).After-term_ratio,
      weighted_most (listed_mean c.args.means.now.values) c.args.term
          (listed_most c.args.means.now.values c.args.means.now.within c.args.term) c.args.used c.requires,
    )

pub returns-then-used : goal.returns-then-used
returns-then-used c = product (goal.at.returns-then-used c).After-term_ratio

pub returns-else-used : goal.returns-else-used
unfolding weighted_ratio
returns-else-used c = rw c.if-used.false
