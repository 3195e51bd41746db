-- The invariant: the map of distributor i stands within the sheet, and the checks before it pass.
use Rattle.sheet.proofs.ReadLaws.{SheetChecked}
use Rattle.sheet.proofs.read.sheet_verdict.Given as goal

abbrev pub invariant-loop : goal.invariant-loop
invariant-loop l = SheetChecked l.sheet l.at l.counter
