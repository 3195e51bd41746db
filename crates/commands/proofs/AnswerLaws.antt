-- Laws of a command's answer: it fits, and what is written of it is the whole answer; and of the command that stands
-- next. Assumes nothing.
use mathlib.Core.Path.{◌≡◌, refl, ◌∙◌}
use mathlib.Core.Bool.{Bool, true, false, cond}
use mathlib.Core.List.{List, []}
use Prim.Native.Nat.{ℕ, ◌≤◌}
use native.Mathlib.Omega.{arith}
use native.Mathlib.Nat.{le_trans}
use lib.ListN.{length}
use Rattle.std.specs.Prelude.{Some, None, Ok, Err, IfOk}
use Rattle.numbers.specs.Bounded.{sum_below}
use Rattle.numbers.specs.Refusal.{Verdict, answer_by}
use Rattle.text.specs.Buffer.{written}
use Rattle.text.specs.Text.{bytes}
use Rattle.text.proofs.BufferLaws.{text_stands}
use Rattle.journal.specs.Cursor.{read_of}
use Rattle.journal.specs.Form.{Held, held_in, part_count, place_of, form_after}
use Rattle.journal.specs.Command.{command_form, command_after}
use Rattle.journal.specs.declared.cursor.Read.{Read}
use Rattle.journal.specs.declared.cursor.Unreadable.{Unreadable}
use Rattle.journal.specs.declared.command.Command.{Command}
use Rattle.journal.specs.declared.command.Command.TheVariants.{Open, Fix, Settle, Save, Load, Interim, Join}
use Rattle.journal.specs.declared.command.Command.TheVariants.{ReadSheet, WriteSheet}
use Rattle.ledger.specs.declared.ledger.Ledger.{Ledger}
use Rattle.sheet.specs.Sheet.{sheet_bytes}
use Rattle.sheet.specs.Write.{write_verdict}
use Rattle.sheet.proofs.WriteLaws.{used_few}
use Rattle.answers.proofs.SizeLaws.{outcome_size, settled_size, fixed_size, sheet_read_size, sheet_written_size}
use Rattle.commands.specs.Replay.{opening_text, fixing_call, fixing_text, settlement_text, joining_text, loading_text}
use Rattle.commands.specs.Replay.{unwritten_bytes, sheet_reading_text, sheet_writing_text, command_answer}
use Rattle.commands.specs.Replay.{word_room, longest_answer, command_ledger, ledger_after, answer_after}
use Rattle.commands.proofs.SavedLaws.{saving_size}

-- the words of every command have room
pub form_room : (command : Command) → place_of (command_form command) part_count ≤ word_room
unfolding place_of sum_below
form_room Open = omega arith
form_room Fix = omega arith
form_room Settle = omega arith
form_room Save = omega arith
form_room Load = omega arith
form_room Interim = omega arith
form_room Join = omega arith
form_room ReadSheet = omega arith
form_room WriteSheet = omega arith

-- no answer is longer than the longest
sheet_fits : (parts : List Held) → length (sheet_writing_text parts) ≤ longest_answer
unfolding sheet_writing_text
sheet_fits parts =
    let n = (held_in parts 0).number in
    let readings = (held_in parts 1).words in
    let buffer = unwritten_bytes (held_in parts 2).number in
    let few : (v : Verdict) → write_verdict n readings buffer ≡ v →
    IfOk (answer_by v (length (sheet_bytes n readings))) (λ used. used ≤ 5280) =
    elim [ Ok _ ↦ λ e. used_few n readings buffer e | Err refusal ↦ λ e. tt ] in
    le_trans (sheet_written_size (bytes "writesheet") (omega arith) _ _ _ 5280 (few _ refl)) (omega arith)

fixing_fits : (is_interim : Bool) → length (cond is_interim (bytes "interim") (bytes "fix")) ≤ 12
fixing_fits true = omega arith
fixing_fits false = omega arith

answer_fits : (command : Command) (parts : List Held) (ledger : Ledger) →
    length (command_answer command parts ledger) ≤ longest_answer
unfolding opening_text fixing_text fixing_call settlement_text joining_text loading_text sheet_reading_text
answer_fits Open parts ledger = le_trans (outcome_size (bytes "open") (omega arith) _) (omega arith)
answer_fits Fix parts ledger = le_trans (fixed_size _ (fixing_fits false) _ _ _) (omega arith)
answer_fits Settle parts ledger = le_trans (settled_size (bytes "settle") (omega arith) _ _ _) (omega arith)
answer_fits Save parts ledger = saving_size ledger
answer_fits Load parts ledger = le_trans (outcome_size (bytes "load") (omega arith) _) (omega arith)
answer_fits Interim parts ledger = le_trans (fixed_size _ (fixing_fits true) _ _ _) (omega arith)
answer_fits Join parts ledger = le_trans (outcome_size (bytes "join") (omega arith) _) (omega arith)
answer_fits ReadSheet parts ledger = le_trans (sheet_read_size (bytes "readsheet") (omega arith) _ _) (omega arith)
answer_fits WriteSheet parts ledger = sheet_fits parts

-- so that it stands whole
pub answer_whole : (command : Command) (parts : List Held) (ledger : Ledger) →
    written longest_answer (command_answer command parts ledger) [] ≡ command_answer command parts ledger
answer_whole command parts ledger =
    text_stands longest_answer (command_answer command parts ledger) [] (omega (arith, answer_fits command parts ledger))

-- the command that stands next, by what was read: its ledger, and its answer
module _ (text : List ℕ) (at : ℕ) (ledger : Ledger) where
  pub next_broken : {broken : Unreadable} → command_after text at ≡ Err broken →
      (Err broken ≡ ledger_after text at ledger) × ([] ≡ answer_after text at ledger)
  unfolding ledger_after answer_after
  next_broken e = (rw e refl, rw e refl)

  pub next_none : command_after text at ≡ Ok None →
      (Ok (read_of ledger (length text)) ≡ ledger_after text at ledger) × ([] ≡ answer_after text at ledger)
  unfolding ledger_after answer_after
  next_none e = (rw e refl, rw e refl)

  module _ (command : Read Command) (e : command_after text at ≡ Ok (Some command)) where
    pub form_broken : {broken : Unreadable} →
        form_after (command_form command.value) text command.next ≡ Err broken →
        (Err broken ≡ ledger_after text at ledger) × ([] ≡ answer_after text at ledger)
    unfolding ledger_after answer_after
    form_broken f = (rw (e, f) refl, rw (e, f) refl)

    pub form_made : (parts : List Held) (next : ℕ) →
        form_after (command_form command.value) text command.next ≡ Ok (read_of parts next) → (after : Ledger) →
        after ≡ command_ledger command.value parts ledger → (answer : List ℕ) →
        answer ≡ written longest_answer (command_answer command.value parts ledger) [] →
        (Ok (read_of after next) ≡ ledger_after text at ledger) × (answer ≡ answer_after text at ledger)
    unfolding ledger_after answer_after
    form_made parts next f after a answer b =
        (rw (e, f, a) refl, rw (e, f) (b ∙ answer_whole command.value parts ledger))
