-- The invariant: each place holds what the lines passed add up to for its distributor.
use Rattle.fixing.proofs.AverageLaws.{EnergiesHeld}
use Rattle.fixing.proofs.average.energies.Given as goal

abbrev pub invariant-loop-j : goal.invariant-loop-j
invariant-loop-j l = EnergiesHeld l.lines l.j l.energies
