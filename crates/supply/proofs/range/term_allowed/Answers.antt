-- Whether the term is used picks the test, as in the definition.
use Rattle.supply.specs.Range.{term_allowed}
use Rattle.supply.proofs.range.term_allowed.Goals as goal

pub returns-then-used : goal.returns-then-used
unfolding term_allowed
returns-then-used c = rw c.if-used.true c.term_in_range.ensures

pub returns-else-used : goal.returns-else-used
unfolding term_allowed
returns-else-used c = rw c.if-used.false c.term_unused.ensures
