-- The invariant: the first k words are the ledger's.

use Rattle.numbers.proofs.ListLaws.{Written}
use Rattle.store.specs.Store.{kept_words, ledger_word}
use Rattle.store.proofs.save.save_words.Given as goal

abbrev pub invariant-loop-k : goal.invariant-loop-k
invariant-loop-k l = Written (ledger_word l.ledger) kept_words l.words l.k
