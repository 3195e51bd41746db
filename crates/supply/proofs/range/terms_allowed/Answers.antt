-- The invariant: each term passed is allowed.
use native.Mathlib.Omega.{arith}
use Rattle.numbers.proofs.BoolLaws.{told_true, told_false}
use Rattle.numbers.proofs.TestLaws.{tested_none, tested_more, tested_fails, tested_all}
use Rattle.supply.specs.Range.{terms_allowed}
use Rattle.supply.proofs.range.terms_allowed.Goals as goal

pub loop-k-init : goal.loop-k-init
loop-k-init c = tested_none _ _

pub returns-then-not-term_allowed : goal.returns-then-not-term_allowed
unfolding terms_allowed
returns-then-not-term_allowed c =
    tested_fails c.loop-k.invariant (omega arith)
    (told_false c.term_allowed.ensures c.if-not-term_allowed.true-raw)

pub loop-k-preserved : goal.loop-k-preserved
loop-k-preserved c =
    tested_more c.loop-k.invariant (omega arith)
    (told_true c.term_allowed.ensures c.if-not-term_allowed.false-raw)

pub returns : goal.returns
unfolding terms_allowed
returns c = tested_all c.loop-k.invariant (omega arith)
