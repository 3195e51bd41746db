-- By whether a fixing is in force.
use Rattle.ledger.specs.Sound.{day_sound}
use Rattle.ledger.proofs.sound.day_sound.Goals as goal

pub returns-then-fixed : goal.returns-then-fixed
unfolding day_sound
returns-then-fixed c = rw c.if-fixed.true c.day_allowed.ensures

pub returns : goal.returns
unfolding day_sound
returns c = rw c.if-fixed.false
