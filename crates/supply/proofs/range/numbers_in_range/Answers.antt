-- The tests are the definition's.
use Rattle.supply.specs.Range.{numbers_in_range}
use Rattle.supply.proofs.range.numbers_in_range.Goals as goal

pub returns : goal.returns
unfolding numbers_in_range
returns c = rw (← c.is_between.ensures, ← c.is_between-2.ensures)
