-- The tests are the definition's.
use Rattle.ledger.specs.Fix.{lines_whole}
use Rattle.ledger.proofs.fix.lines_whole.Goals as goal

pub returns : goal.returns
unfolding lines_whole
returns c = rw (c.is_between.ensures, c.line_count.ensures)
