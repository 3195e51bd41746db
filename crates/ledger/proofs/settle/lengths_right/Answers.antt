-- The code is the definition.
use mathlib.Core.Path.{refl}
use Rattle.ledger.specs.Settle.{settlement_lengths}
use Rattle.ledger.proofs.settle.lengths_right.Goals as goal

pub returns : goal.returns
unfolding settlement_lengths
returns c = refl
