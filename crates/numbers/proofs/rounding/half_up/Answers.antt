-- The code is the definition.
use mathlib.Core.Path.{refl}
use Rattle.numbers.specs.Rounding.{half_up}
use Rattle.numbers.proofs.rounding.half_up.Goals as goal

pub returns : goal.returns
unfolding half_up
returns c = refl
