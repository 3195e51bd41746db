-- The invariant: the readings and loss factors of each distributor passed are allowed.
use native.Mathlib.Omega.{arith}
use Rattle.numbers.proofs.TestLaws.{tested_none, tested_more, tested_fails, tested_all}
use Rattle.settlement.specs.Amount.{billing_in_range}
use Rattle.settlement.proofs.amount.billing_in_range.Goals as goal

pub loop-i-init : goal.loop-i-init
loop-i-init c = tested_none _ _

pub returns-then-not-allowed : goal.returns-then-not-allowed
unfolding billing_in_range
returns-then-not-allowed c =
    tested_fails c.loop-i.invariant (omega arith)
    (cc)

pub loop-i-preserved : goal.loop-i-preserved
loop-i-preserved c =
    tested_more c.loop-i.invariant (omega arith)
    (cc)

pub returns : goal.returns
unfolding billing_in_range
returns c = tested_all c.loop-i.invariant (omega arith)
