-- The invariant: the first numbers are read into the first places, and zeros stand in the others.
use lib.ListN.{length}
use Rattle.journal.proofs.ListLaws.{NumbersSoFar}
use Rattle.journal.proofs.list.fill_numbers.Given as goal

abbrev pub invariant-loop-place : goal.invariant-loop-place
invariant-loop-place l =
    NumbersSoFar l.text l.at l.signed l.most (length l.initial.into) l.into l.next l.place-index
