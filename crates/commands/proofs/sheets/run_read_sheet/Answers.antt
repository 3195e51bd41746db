-- The call is that of the parts, their words as bytes, and the answer that of the call.
use mathlib.Core.Path.{refl, ◌∙◌}
use native.Mathlib.Omega.{arith}
use Rattle.numbers.specs.Bounded.{list_below}
use Rattle.journal.specs.Form.{parts_in, parts_below}
use Rattle.answers.specs.Answer.{unwritten_word}
use Rattle.commands.specs.Replay.{unwritten_power, sheet_reading_text}
use Rattle.commands.proofs.LentLaws.{first_lent}
use Rattle.commands.proofs.sheets.run_read_sheet.Goals as goal

pub returns : goal.returns
unfolding unwritten_power sheet_reading_text parts_in parts_below list_below
returns c =
    let promise = c.read_sheet-read.ensures in
    let lent = first_lent unwritten_word c.unwritten-room.ensures _ c.number_of.ensures (c.requires.bounded 2 (omega arith)) in
    rw (← c.words_of-given.ensures, ← lent, ← c.number_of-2.ensures, ← c.narrow.ensures)
    (c.write_sheet_read.ensures ∙ rw (promise.listed, promise.judged.answered) refl)
