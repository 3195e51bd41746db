-- The invariant: the walk comes to reading b, whose place lies within the sheet, and the checks before it pass.
use Rattle.sheet.proofs.ReadLaws.{Checked}
use Rattle.sheet.proofs.read.distributor_end.Given as goal

abbrev pub invariant-loop : goal.invariant-loop
invariant-loop l = Checked l.sheet l.start l.bits l.at l.counter
