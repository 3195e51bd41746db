-- A part is as long as its count.
use mathlib.Core.Path.{sym}
use lib.Seq.{length-take-le}
use Rattle.unreadable.proofs.report_first.Goals as goal

pub slice_bounds-report-end : goal.slice_bounds-report-end
slice_bounds-report-end c = sym (length-take-le _ _ c.if-count-text.true)
