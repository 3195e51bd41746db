-- Whether the test holds picks the bound, as in the definition.
use Rattle.numbers.specs.Units.{bound_where}
use Rattle.numbers.proofs.units.bound_where.Goals as goal

pub returns-then-held : goal.returns-then-held
unfolding bound_where
returns-then-held c = rw c.if-held.true

pub returns-else-held : goal.returns-else-held
unfolding bound_where
returns-else-held c = rw c.if-held.false
