-- The code is the definition.
use mathlib.Core.Path.{refl}
use Rattle.series.specs.Means.{mean_place}
use Rattle.series.proofs.mean.mean_place.Goals as goal

pub returns : goal.returns
unfolding mean_place
returns c = refl
