-- The five words are the definition's.
use mathlib.Core.Path.{refl}
use Rattle.supply.specs.Line.{term_from}
use Rattle.supply.proofs.line.term_from.Goals as goal

pub returns : goal.returns
unfolding term_from
returns c = refl
