-- The invariant: the first i words are the averages.
use mathlib.Core.Path.{refl}
use native.Mathlib.Omega.{arith}
use Rattle.numbers.proofs.ListLaws.{written_none, written_more}
use Rattle.ledger.proofs.fix.write_power.Goals as goal

pub loop-i-init : goal.loop-i-init
loop-i-init c = written_none _ _ _ refl

pub loop-i-preserved : goal.loop-i-preserved
loop-i-preserved c = written_more c.loop-i.invariant (omega arith) refl
