-- The invariant: the first i words are the transfers.
use lib.ListN.{length}
use Rattle.numbers.proofs.ListLaws.{Written}
use Rattle.settlement.specs.Month.{money_at}
use Rattle.ledger.proofs.settle.write_transfers.Given as goal

abbrev pub invariant-loop-i : goal.invariant-loop-i
invariant-loop-i l = Written (money_at l.amounts) (length l.initial.transfers) l.transfers l.i
