-- The invariant: the sum of the weights passed, each at most 10,000.
use native.Mathlib.Omega.{arith}
use Rattle.numbers.proofs.SumLaws.{summed_none, summed_more, summed_all, sum_le}
use Rattle.supply.specs.Line.{term_of}
use Rattle.supply.specs.Range.{weight_total}
use Rattle.supply.proofs.RangeLaws.{allowed_weight}
use Rattle.supply.proofs.range.weight_total.Goals as goal

pub loop-k-init : goal.loop-k-init
loop-k-init c = summed_none _ _

pub overflow_add-total : goal.overflow_add-total
overflow_add-total c =
    omega (
      arith,
      c.loop-k.invariant.sum,
      allowed_weight c.args.line c.requires c.loop-k.k (omega arith),
      sum_le c.loop-k.k 10000 (λ i. (term_of c.args.line i).weight)
          (λ i p. allowed_weight c.args.line c.requires i (omega arith)),
    )

pub loop-k-preserved : goal.loop-k-preserved
loop-k-preserved c = summed_more c.loop-k.invariant (omega arith)

pub returns : goal.returns
unfolding weight_total
returns c = summed_all c.loop-k.invariant (omega arith)
