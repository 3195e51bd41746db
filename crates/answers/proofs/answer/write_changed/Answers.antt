-- The line, or nothing.
use Rattle.std.proofs.Common.{sym}
use Rattle.answers.specs.Answer.{changed_text}
use Rattle.answers.proofs.answer.write_changed.Goals as goal

pub returns-then-not-unwritten : goal.returns-then-not-unwritten
unfolding changed_text
returns-then-not-unwritten g c = rw c.if-not-unwritten.true c.write_changed_line.ensures

pub returns-else-not-unwritten : goal.returns-else-not-unwritten
unfolding changed_text
returns-else-not-unwritten g c = rw c.if-not-unwritten.false (sym (g.met.T.Writable.after_none _))
