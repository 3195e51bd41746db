-- Each of the two accepted sheets is the sheet of the readings that are read.
use Rattle.sheet.proofs.RoundLaws.{equal_readings}
use Rattle.sheet.proofs.round.equal_readings_equal_sheets.Goals as goal

pub returns : goal.returns
returns c n one other lent also list p q first second = equal_readings n one other lent also list p q first second
