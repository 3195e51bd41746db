-- Where the last month is in its range, the tests are the definition's.
use borrow.Author.Tests.{le-leb, lt-leb}
use Rattle.ledger.specs.Sound.{months_sound}
use Rattle.ledger.proofs.sound.months_sound.Goals as goal

pub returns-then-last-gt-LAST_MONTH : goal.returns-then-last-gt-LAST_MONTH
unfolding months_sound
returns-then-last-gt-LAST_MONTH c = rw (lt-leb _ _ c.if-last-gt-LAST_MONTH.true)

pub returns : goal.returns
unfolding months_sound
returns c = rw (le-leb _ _ c.if-last-gt-LAST_MONTH.false)
