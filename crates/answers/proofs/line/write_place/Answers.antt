-- By the refusal: one without a place is known by its tag.
use Rattle.std.proofs.Common.{sym}
use Rattle.answers.proofs.AnswerLaws.{place_none}
use Rattle.answers.proofs.line.write_place.Goals as goal

pub returns-in-MonthMissing : goal.returns-in-MonthMissing
returns-in-MonthMissing g c =
    rw c.in-MonthMissing.is
    (g.met.T.Writable.after_both _ _ _ _ _ c.write_item.ensures c.write_item-in-MonthMissing.ensures)

pub returns-in_default : goal.returns-in_default
returns-in_default g c =
    let none = place_none c.args.refusal c.in_default.not-MonthMissing c.in_default.not-OutOfBounds in
    rw none (sym (g.met.T.Writable.after_none _))
