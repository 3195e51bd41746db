-- No more bytes are used than the buffer has.
use mathlib.Core.Path.{sym}
use lib.Seq.{length-take-le}
use Rattle.sheet.proofs.WriteLaws.{written_within}
use Rattle.timing.proofs.sheets.write_then_read.Goals as goal

pub slice_bounds-read_sheet-end : goal.slice_bounds-read_sheet-end
slice_bounds-read_sheet-end c = written_within _ _ _ _ _ c.in_ok-used.ensures

pub slice_bounds-read_sheet-end-2 : goal.slice_bounds-read_sheet-end-2
slice_bounds-read_sheet-end-2 c = sym (length-take-le _ _ (written_within _ _ _ _ _ c.in_ok-used.ensures))
