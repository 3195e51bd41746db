-- The invariant: the words passed are bytes.
use mathlib.Core.Path.{refl}
use native.Mathlib.Omega.{arith}
use Rattle.numbers.proofs.ListLaws.{written_none, written_more, written_all}
use Rattle.commands.specs.Replay.{bytes_of}
use Rattle.commands.proofs.sheets.narrow.Goals as goal

pub loop-k-init : goal.loop-k-init
loop-k-init c = written_none _ _ _ c.requires

pub loop-k-preserved : goal.loop-k-preserved
loop-k-preserved c = written_more c.loop-k.invariant (omega arith) refl

pub returns : goal.returns
unfolding bytes_of
returns c = written_all c.loop-k.invariant (omega arith)
