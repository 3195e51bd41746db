-- The invariant: the first rows of the table are filled.
use Rattle.numbers.proofs.ListLaws.{Written}
use Rattle.series.specs.Series.{series_row}
use Rattle.series.proofs.table.fill.Given as goal

abbrev pub invariant-loop-series : goal.invariant-loop-series
invariant-loop-series l = Written (series_row l.words) 5 l.table l.series
