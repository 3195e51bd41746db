-- The code is the definition.
use mathlib.Core.Path.{refl}
use Rattle.ledger.specs.Sound.{unset_zero}
use Rattle.ledger.proofs.sound.unset_zero.Goals as goal

pub returns : goal.returns
unfolding unset_zero
returns c = refl
