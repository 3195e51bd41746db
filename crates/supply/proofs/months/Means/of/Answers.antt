-- The means of a table in its range are in theirs.
use Rattle.series.proofs.MeanLaws.{means_within}
use Rattle.supply.proofs.months.Means.of.Goals as goal

pub invariant_of-result : goal.invariant_of-result
invariant_of-result c = record { within = rw c.means.ensures (means_within c.args.table c.requires.table_in_range _ _) }
