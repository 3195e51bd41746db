-- The invariant: the readings of each sector passed are allowed.
use mathlib.Core.Path.{sym}
use native.Mathlib.Omega.{arith}
use Rattle.numbers.proofs.TestLaws.{tested_none, tested_more, tested_fails, tested_all}
use Rattle.settlement.specs.Amount.{readings_allowed}
use Rattle.settlement.proofs.amount.Billing.readings_allowed.Goals as goal

pub loop-s-init : goal.loop-s-init
loop-s-init c = tested_none _ _

pub returns-then-not-sector_allowed : goal.returns-then-not-sector_allowed
unfolding readings_allowed
returns-then-not-sector_allowed c =
    tested_fails c.loop-s.invariant (omega arith)
    (sym c.if-not-sector_allowed.ensures)

pub loop-s-preserved : goal.loop-s-preserved
loop-s-preserved c =
    tested_more c.loop-s.invariant (omega arith)
    (sym c.if-not-sector_allowed.ensures)

pub returns : goal.returns
unfolding readings_allowed
returns c = tested_all c.loop-s.invariant (omega arith)
