-- Series and weight are CPI's and the whole, the three words are the definition's.
use mathlib.Core.Path.{refl}
use Rattle.supply.specs.Line.{power_term_from}
use Rattle.supply.proofs.line.power_term_from.Goals as goal

pub returns : goal.returns
unfolding power_term_from
returns c = refl
