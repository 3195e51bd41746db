-- By whether the number is signed.
use Rattle.journal.specs.Number.{reading_in}
use Rattle.journal.proofs.number.read_digits.Goals as goal

pub returns-then-signed : goal.returns-then-signed
unfolding reading_in
returns-then-signed c = rw c.if-signed.true c.read_signed.ensures

pub returns : goal.returns
unfolding reading_in
returns c = rw c.if-signed.false c.read_number.ensures
