-- The invariant: the readings of each sector passed are allowed.
use Rattle.numbers.proofs.TestLaws.{Tested}
use Rattle.settlement.specs.Amount.{sector_allowed}
use Rattle.settlement.proofs.amount.Billing.readings_allowed.Given as goal

abbrev pub invariant-loop-s : goal.invariant-loop-s
invariant-loop-s l = Tested 8 (sector_allowed l.present l.self.readings.now l.i) l.s
