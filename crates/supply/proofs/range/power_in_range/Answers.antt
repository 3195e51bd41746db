-- The tests are the definition's.
use Rattle.supply.specs.Range.{power_in_range}
use Rattle.supply.proofs.range.power_in_range.Goals as goal

pub returns : goal.returns
unfolding power_in_range
returns c = rw (← c.is_between.ensures, ← c.term_in_range.ensures)
