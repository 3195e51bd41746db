-- The invariant: each place holds what the lines passed come to for its distributor.
use Rattle.fixing.proofs.AverageLaws.{AmountsHeld}
use Rattle.fixing.proofs.average.amounts.Given as goal

abbrev pub invariant-loop-j : goal.invariant-loop-j
invariant-loop-j l = AmountsHeld l.prices l.lines l.j l.amounts
