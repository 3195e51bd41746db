-- The code is the definition.
use mathlib.Core.Path.{refl}
use Rattle.numbers.specs.Rounding.{half_up}
use Rattle.fixing.proofs.power.power_average.Goals as goal

pub returns : goal.returns
unfolding half_up
returns c = refl
