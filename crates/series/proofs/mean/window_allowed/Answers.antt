-- The code is the definition.
use mathlib.Core.Path.{refl}
use Rattle.series.specs.Series.{window_allowed}
use Rattle.series.proofs.mean.window_allowed.Goals as goal

pub returns : goal.returns
unfolding window_allowed
returns c = refl
