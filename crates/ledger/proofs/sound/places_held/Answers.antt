-- The code is the definition.
use Rattle.ledger.specs.Sound.{places_held}
use Rattle.ledger.proofs.sound.places_held.Goals as goal

pub returns : goal.returns
unfolding places_held
returns c = c.bound_where.ensures
