-- The code is the definition.
use Rattle.ledger.specs.Sound.{older_sound}
use Rattle.ledger.proofs.sound.older_sound.Goals as goal

pub returns : goal.returns
unfolding older_sound
returns c = rw (c.force_sound.ensures, c.places_held.ensures)
