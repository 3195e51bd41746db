-- The code is the definition.
use Rattle.ledger.specs.Sound.{fixings_sound}
use Rattle.ledger.proofs.sound.fixings_sound.Goals as goal

pub returns : goal.returns
unfolding fixings_sound
returns c =
    rw (
      c.force_sound.ensures,
      c.places_held.ensures,
      c.older_sound.ensures,
      c.day_sound.ensures,
    )
