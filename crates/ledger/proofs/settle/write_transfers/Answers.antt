-- The invariant: the first i words are the transfers.
use mathlib.Core.Path.{refl}
use native.Mathlib.Omega.{arith}
use mir.Facts.{to_z-of_z}
use borrow.Author.Rules.{rules}
use Rattle.numbers.proofs.ListLaws.{written_none, written_more}
use mir.Syntax.{w64}
use Rattle.ledger.proofs.settle.write_transfers.Goals as goal

pub loop-i-init : goal.loop-i-init
loop-i-init c = written_none _ _ _ refl

pub loop-i-preserved : goal.loop-i-preserved
loop-i-preserved c = written_more c.loop-i.invariant (omega arith) (to_z-of_z {w = w64} (search rules))
