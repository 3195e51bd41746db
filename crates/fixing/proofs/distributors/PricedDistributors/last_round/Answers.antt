-- The invariant: what is known before a round. Somebody joins in each round but the last, so that the rounds stay fewer
-- than the distributors.
use mathlib.Core.Path.{◌≡◌}
use Prim.Native.Nat.{◌-◌, ◌*◌}
use Rattle.numbers.specs.Rounding.{divide_up}
use Rattle.fixing.proofs.LoopLaws.{none_above, round_first, made_few, pays_more, pays_most, outside_least}
use Rattle.fixing.proofs.LoopLaws.{outside_most, raise_most, round_more, round_last}
use native.Mathlib.Omega.{arith}
use Rattle.fixing.proofs.distributors.PricedDistributors.last_round.Goals as goal
use Rattle.fixing.proofs.distributors.PricedDistributors.last_round.Goals.{After-divide_up}

pub returns-then-sums-eq0 : goal.returns-then-sums-eq0
returns-then-sums-eq0 c =
    none_above c.args.self.range c.requires c.round_sums-sums.ensures c.if-sums-eq0.true

pub loop-sums-init : goal.loop-sums-init
loop-sums-init c =
    round_first c.args.self.range c.requires c.round_sums-sums.ensures c.if-sums-eq0.false

pub overflow_mul-excess : goal.overflow_mul-excess
overflow_mul-excess c = omega (arith, pays_more c.loop-sums.invariant, pays_most c.loop-sums.invariant)

pub overflow_sub-excess : goal.overflow_sub-excess
overflow_sub-excess c = omega (arith, pays_more c.loop-sums.invariant)

pub divide_up-requires : goal.divide_up-requires
divide_up-requires c =
    let at = c.loop-sums.invariant in
    omega (arith, pays_most at, outside_least at, outside_most at)

worked : (c : After-divide_up) →
    c.divide_up.result ≡ divide_up
    (c.loop-sums.sums.paid.0 - c.args.limit.0 * c.loop-sums.sums.inside.0)
    c.loop-sums.sums.outside.0
worked c = c.divide_up.ensures

pub overflow_add-rounds : goal.overflow_add-rounds
overflow_add-rounds c = omega (arith, made_few c.loop-sums.invariant, c.loop-sums.invariant.range.few)

pub round_sums-next-requires : goal.round_sums-next-requires
round_sums-next-requires c =
    let at = c.loop-sums.invariant in
    record {
      limited = at.topped;
      raised = raise_most at (worked c);
    }

pub returns-then-next-sums : goal.returns-then-next-sums
returns-then-next-sums c =
    round_last c.loop-sums.invariant (worked (goal.at.returns-then-next-sums c).After-divide_up)
    c.round_sums-next.ensures (omega arith)

pub loop-sums-smaller : goal.loop-sums-smaller
loop-sums-smaller c = omega (arith, made_few c.loop-sums.invariant)

pub loop-sums-preserved : goal.loop-sums-preserved
loop-sums-preserved c =
    round_more c.loop-sums.invariant (worked (goal.at.loop-sums-preserved c).After-divide_up)
    c.round_sums-next.ensures c.if-next-sums.false
