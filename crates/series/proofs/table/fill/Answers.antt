-- Each row is copied from its 48 words.
use mathlib.Core.Path.{refl, ◌∙◌}
use native.Mathlib.Omega.{arith}
use Rattle.numbers.proofs.ListLaws.{written_none, written_more, written_all}
use Rattle.series.specs.Series.{series_table}
use Rattle.series.proofs.SeriesLaws.{row_copied}
use Rattle.series.proofs.table.fill.Goals as goal

pub loop-series-init : goal.loop-series-init
loop-series-init c = written_none _ _ _ refl

pub loop-series-preserved : goal.loop-series-preserved
loop-series-preserved c =
    written_more c.loop-series.invariant (omega arith)
    (c.copy_from_slice.ensures.after ∙ row_copied c.args.words.now c.loop-series.series c.requires (omega arith))

pub returns : goal.returns
unfolding series_table
returns c = written_all c.loop-series.invariant (omega arith)
