-- Rows, or what was changed.
use Rattle.answers.specs.Answer.{under_text, settled_rows}
use Rattle.answers.proofs.answer.write_settled_rows.Goals as goal

pub returns-then-accepted : goal.returns-then-accepted
unfolding under_text settled_rows
returns-then-accepted g c = rw c.if-accepted.true c.write_rows.ensures

pub returns-else-accepted : goal.returns-else-accepted
unfolding under_text settled_rows
returns-else-accepted g c = rw c.if-accepted.false (rw c.is_unwritten.ensures at c.write_changed.ensures)
