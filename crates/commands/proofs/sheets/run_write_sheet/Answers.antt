-- The call is that of the parts, and the answer that of the call.
use mathlib.Core.Path.{refl, ◌∙◌}
use native.Mathlib.Omega.{arith}
use mathlib.Core.List.{List}
use Prim.Native.Nat.{ℕ, ◌≤◌}
use lib.ListN.{length}
use Rattle.std.specs.Prelude.{Result, Ok, Err, IfOk}
use Rattle.numbers.specs.Bounded.{list_below}
use Rattle.numbers.specs.declared.refusal.Refusal.{Refusal}
use Rattle.sheet.specs.Write.{write_verdict, WritePromise}
use Rattle.sheet.proofs.WriteLaws.{written_within}
use Rattle.journal.specs.Form.{parts_in, parts_below}
use Rattle.answers.specs.Answer.{unwritten_byte}
use Rattle.commands.specs.Replay.{unwritten_bytes, sheet_writing_text}
use Rattle.commands.proofs.LentLaws.{first_lent}
use Rattle.commands.proofs.sheets.run_write_sheet.Goals as goal

within : {n : ℕ} {readings buffer left : List ℕ} (answer : Result ℕ Refusal) → WritePromise n readings buffer answer left →
    IfOk answer (λ used. used ≤ length left)
within {n} {readings} {buffer} {left} (Ok used) promise = written_within n readings buffer used left promise
within (Err refusal) promise = tt

pub write_sheet_written-requires : goal.write_sheet_written-requires
write_sheet_written-requires c = within _ c.write_sheet-used.ensures

pub returns : goal.returns
unfolding unwritten_bytes sheet_writing_text write_verdict parts_in parts_below list_below
returns c =
    let promise = c.write_sheet-used.ensures in
    let lent = first_lent unwritten_byte c.unwritten-room.ensures _ c.number_of.ensures (c.requires.bounded 2 (omega arith)) in
    rw (← c.words_of-readings.ensures, ← lent, ← c.number_of-2.ensures)
    (c.write_sheet_written.ensures ∙ rw (promise.listed, promise.judged.answered) refl)
