-- The invariant: the first k words are the definition's.
use lib.ListN.{length}
use Rattle.numbers.proofs.ListLaws.{Written}
use Rattle.ledger.specs.Fix.{price_word}
use Rattle.ledger.proofs.fix.write_prices.Given as goal

abbrev pub invariant-loop-k : goal.invariant-loop-k
invariant-loop-k l = Written (price_word l.averages l.finals l.charges) (length l.initial.prices) l.prices l.k
