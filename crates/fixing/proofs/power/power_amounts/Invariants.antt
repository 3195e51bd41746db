-- The invariant: each place holds what the lines passed come to for its distributor.
use Rattle.fixing.proofs.PowerLaws.{PowerHeld}
use Rattle.fixing.proofs.power.power_amounts.Given as goal

abbrev pub invariant-loop-j : goal.invariant-loop-j
invariant-loop-j l = PowerHeld l.prices l.lines l.j l.amounts
