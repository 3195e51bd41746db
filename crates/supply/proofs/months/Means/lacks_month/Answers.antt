-- A term that the line does not use is not looked up; of one that it uses the mean tells.
use mathlib.Core.Path.{ap}
use lib.Dec.{eqb}
use Rattle.supply.specs.Line.{term_used}
use Rattle.supply.specs.Listed.{listed_lacks}
use Rattle.supply.proofs.months.Means.lacks_month.Goals as goal

pub term_mean-requires : goal.term_mean-requires
unfolding term_used
term_mean-requires c = c.args.checked.facts.term c.args.k c.if-used.true

pub returns-then-used : goal.returns-then-used
unfolding term_used listed_lacks
returns-then-used c = rw c.if-used.true (ap (λ m. eqb m 0) c.term_mean.ensures)

pub returns-else-used : goal.returns-else-used
unfolding term_used
returns-else-used c = rw c.if-used.false
