-- The invariant: the first k words are the ledger's.
use mathlib.Core.Path.{sym, ◌∙◌}
use native.Mathlib.Omega.{arith}
use Rattle.numbers.proofs.ListLaws.{written_none, written_more, written_all}
use Rattle.store.specs.Store.{ledger_words}
use Rattle.store.proofs.save.save_words.Goals as goal

pub loop-k-preserved : goal.loop-k-preserved
loop-k-preserved c = written_more c.loop-k.invariant (omega arith) c.ledger_word.ensures

pub returns : goal.returns
unfolding ledger_words
returns c = written_all c.loop-k.invariant (omega arith)

pub loop-k-init : goal.loop-k-init
loop-k-init c = written_none _ _ _ c.requires

pub shape_of-words : goal.shape_of-words
shape_of-words c = c.loop-k.invariant.long ∙ sym c.requires
