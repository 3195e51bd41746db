-- The invariant: the first i words are the averages.
use lib.ListN.{get_or, length}
use Rattle.numbers.specs.Units.{no_power}
use Rattle.numbers.proofs.ListLaws.{Written}
use Rattle.ledger.proofs.fix.write_power.Given as goal

abbrev pub invariant-loop-i : goal.invariant-loop-i
invariant-loop-i l = Written (λ k. (get_or l.averages k no_power).0) (length l.initial.power) l.power l.i
