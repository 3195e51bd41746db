-- The test of the bounds picks the answer, as in the definition.
use Rattle.numbers.specs.Units.{checked_price, price_answered}
use Rattle.numbers.proofs.CheckLaws.{promised}
use Rattle.numbers.proofs.UnitLaws.{price_told}
use Rattle.numbers.proofs.units.PesoPrice.checked.Goals as goal

pub returns-then-is_between : goal.returns-then-is_between
unfolding checked_price
returns-then-is_between c = promised price_answered _ _ _ (rw (← c.is_between.ensures, c.if-is_between.true)) (price_told _)

pub returns-else-is_between : goal.returns-else-is_between
unfolding checked_price
returns-else-is_between c = promised price_answered _ _ _ (rw (← c.is_between.ensures, c.if-is_between.false)) (price_told _)
