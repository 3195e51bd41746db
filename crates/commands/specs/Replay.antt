-- What a journal does to the ledger, and what it answers (docs/JOURNAL.md): each command is the call of the words that
-- its text holds. Assumes nothing.
use Rattle.std.specs.Prelude.{Bool, true, false, cond, List, [], ℕ, zero, suc, ◌%◌, eqb, ltb, length, get_or, replicate, ℤ, negsuc, Option, Some, None, Result, Ok, Err}
use Rattle.numbers.specs.Bounded.{list_below}
use Rattle.numbers.specs.Refusal.{answer_by}
use Rattle.numbers.specs.Checks.{verdict_of}
use Rattle.sheet.specs.Read.{read_checks, read_list}
use Rattle.sheet.specs.Sheet.{sheet_bytes}
use Rattle.sheet.specs.Write.{write_verdict, written_buffer}
use Rattle.text.specs.Text.{bytes, decimal}
use Rattle.journal.specs.Cursor.{unreadable, read_of, Reading, and_then}
use Rattle.journal.specs.Form.{Held, held_in, form_after, form_text}
use Rattle.journal.specs.Command.{load_form, command_form, command_after}
use Rattle.journal.specs.declared.cursor.Unreadable.{Unreadable}
use Rattle.journal.specs.declared.cursor.Read.{Read}
use Rattle.journal.specs.declared.command.Command.{Command}
use Rattle.journal.specs.declared.command.Command.TheVariants.{Open, Fix, Settle, Save, Load, Interim, Join}
use Rattle.journal.specs.declared.command.Command.TheVariants.{ReadSheet, WriteSheet}
use Rattle.ledger.specs.Ledger.{empty_ledger, opening_verdict, opening_ledger}
use Rattle.ledger.specs.Fix.{FixingCall, fixing_call_of, fixing_answer}
use Rattle.ledger.specs.Fix.{fixing_ledger, fixing_list, fixing_power_list}
use Rattle.ledger.specs.Settle.{SettlementCall, settlement_call_of, settlement_verdict, settlement_ledger, settlement_list}
use Rattle.ledger.specs.Join.{join_verdict, join_ledger}
use Rattle.ledger.specs.declared.ledger.Ledger.{Ledger}
use Rattle.store.specs.Store.{ledger_parts, loaded_ledger}
use Rattle.answers.specs.Answer.{outcome_line, all_unwritten, unwritten_word, unwritten_byte}
use Rattle.answers.specs.Answer.{settled_text, fixed_text, sheet_read_text, sheet_written_text}
use Rattle.commands.specs.declared.run.Step.{Step}

-- a lent list: "it is lent with every word -1"
unfoldable pub unwritten : ℕ → List ℤ
unwritten k = replicate k (negsuc 0)

-- a list of words without a sign: "it is lent with every word 18446744073709551615"
unfoldable pub unwritten_power : ℕ → List ℕ
unwritten_power k = replicate k unwritten_word

-- "The buffer is lent with every byte 255"
unfoldable pub unwritten_bytes : ℕ → List ℕ
unwritten_bytes k = replicate k unwritten_byte

-- the words of a list as bytes: "a byte is 0 to 255", and the form takes no greater word
unfoldable pub bytes_of : List ℕ → List ℕ
bytes_of words = list_below (length words) (λ k. get_or words k 0 % 256)

-- "fix MONTH DOLLAR FACTOR FIRST DAY series K .. lines K .. sectors K .. prices K power K": the fixing of these parts,
-- of which an interim one has "inforce K .." before the prices
unfoldable pub fixing_call : Bool → List Held → FixingCall
fixing_call is_interim parts =
    fixing_call_of is_interim
    (record {
      month = (held_in parts 0).number;
      dollar = (held_in parts 1).number;
      reference_factor = (held_in parts 2).number;
      first_month = (held_in parts 3).number;
      day = (held_in parts 4).number;
    })
    (held_in parts 5).words (held_in parts 6).words (held_in parts 7).words (held_in parts 8).words
    (unwritten (held_in parts 9).number) (unwritten_power (held_in parts 10).number)

-- "settle MONTH readings K .. losses K .. transfers K"
unfoldable pub settlement_call : List Held → SettlementCall
settlement_call parts =
    settlement_call_of (held_in parts 0).number (held_in parts 1).words (held_in parts 2).words
    (unwritten (held_in parts 3).number)

-- "open accepted", "open refused 1"
unfoldable pub opening_text : ℕ → List ℕ
opening_text n = outcome_line (bytes "open") (opening_verdict n)

-- the line of a fixing, "I AVERAGE FINAL CHARGE POWER (a row for each distributor)"; an interim one "answers as `fix`
-- does, with the word `interim` in place of `fix`"
abbrev pub fixing_name : Bool → List ℕ
fixing_name is_interim = cond is_interim (bytes "interim") (bytes "fix")

unfoldable pub fixing_text : Ledger → FixingCall → List ℕ
fixing_text ledger call =
    fixed_text (fixing_name call.is_interim) (fixing_answer ledger call) (fixing_list ledger call)
    (fixing_power_list ledger call)

-- the line of a settlement, "I TRANSFER BALANCE (a row for each distributor)"
unfoldable pub settlement_text : Ledger → SettlementCall → List ℕ
settlement_text ledger call =
    settled_text (bytes "settle") (settlement_verdict ledger call) (settlement_list ledger call)
    (settlement_ledger ledger call).balances

-- "`join` answers `join accepted` or `join refused NUMBER`"
unfoldable pub joining_text : Ledger → List ℕ
joining_text ledger = outcome_line (bytes "join") (join_verdict ledger)

-- "readsheet N sheet K .. readings K"
unfoldable pub sheet_reading_text : List Held → List ℕ
sheet_reading_text parts =
    let n = (held_in parts 0).number in
    let sheet = bytes_of (held_in parts 1).words in
    let lent = unwritten_power (held_in parts 2).number in
    sheet_read_text (bytes "readsheet") (verdict_of (read_checks n sheet lent)) (read_list n sheet lent)

-- "writesheet N readings K .. sheet K"
unfoldable pub sheet_writing_text : List Held → List ℕ
sheet_writing_text parts =
    let n = (held_in parts 0).number in
    let readings = (held_in parts 1).words in
    let buffer = unwritten_bytes (held_in parts 2).number in
    sheet_written_text decimal (all_unwritten eqb unwritten_byte) (bytes "writesheet")
    (answer_by (write_verdict n readings buffer) (length (sheet_bytes n readings)))
    (written_buffer n readings buffer)

-- "`save` prints the ledger as a `load` command"
unfoldable pub saving_text : Ledger → List ℕ
saving_text ledger = form_text (bytes "load        ") load_form (ledger_parts ledger)

-- "load accepted"
unfoldable pub loading_text : List ℕ
loading_text = outcome_line (bytes "load") (Ok tt)

-- the ledger after a command of these parts. "A refused `open` leaves the all-zero ledger"
abbrev pub command_ledger : Command → List Held → Ledger → Ledger
command_ledger Open parts ledger = opening_ledger (held_in parts 0).number
command_ledger Fix parts ledger = fixing_ledger ledger (fixing_call false parts)
command_ledger Settle parts ledger = settlement_ledger ledger (settlement_call parts)
command_ledger Save parts ledger = ledger
command_ledger Load parts ledger = loaded_ledger parts
command_ledger Interim parts ledger = fixing_ledger ledger (fixing_call true parts)
command_ledger Join parts ledger = join_ledger ledger
command_ledger ReadSheet parts ledger = ledger
command_ledger WriteSheet parts ledger = ledger

-- what it answers
abbrev pub command_answer : Command → List Held → Ledger → List ℕ
command_answer Open parts ledger = opening_text (held_in parts 0).number
command_answer Fix parts ledger = fixing_text ledger (fixing_call false parts)
command_answer Settle parts ledger = settlement_text ledger (settlement_call parts)
command_answer Save parts ledger = saving_text ledger
command_answer Load parts ledger = loading_text
command_answer Interim parts ledger = fixing_text ledger (fixing_call true parts)
command_answer Join parts ledger = joining_text ledger
command_answer ReadSheet parts ledger = sheet_reading_text parts
command_answer WriteSheet parts ledger = sheet_writing_text parts

-- the words of the longest lists that a command has
abbrev pub word_room : ℕ
word_room = 32768

-- the ledger after a command whose parts were read: "the broken command is not made"
abbrev pub ledger_by : Command → Ledger → Reading (List Held) → Reading Ledger
ledger_by command ledger (Ok form) = Ok (read_of (command_ledger command form.value ledger) form.next)
ledger_by command ledger (Err broken) = Err broken

-- a command from its word on, or none where no token is left
abbrev pub ledger_of : List ℕ → Ledger → Option (Read Command) → Reading Ledger
ledger_of text ledger None = Ok (read_of ledger (length text))
ledger_of text ledger (Some read) =
    ledger_by read.value ledger (form_after (command_form read.value) text read.next)

-- the command that stands next: the ledger after it
unfoldable pub ledger_after : List ℕ → ℕ → Ledger → Reading Ledger
ledger_after text at ledger = and_then (command_after text at) (ledger_of text ledger)

-- and its answer: none where it is broken
abbrev pub answer_with : Command → Ledger → Reading (List Held) → List ℕ
answer_with command ledger (Ok form) = command_answer command form.value ledger
answer_with command ledger (Err broken) = []

abbrev pub answer_of : List ℕ → Ledger → Result (Option (Read Command)) Unreadable → List ℕ
answer_of text ledger (Ok None) = []
answer_of text ledger (Ok (Some read)) =
    answer_with read.value ledger (form_after (command_form read.value) text read.next)
answer_of text ledger (Err broken) = []

unfoldable pub answer_after : List ℕ → ℕ → Ledger → List ℕ
answer_after text at ledger = answer_of text ledger (command_after text at)

-- the text is read up to a place, with a ledger
abbrev pub read_with : Ledger → ℕ → Step
read_with ledger at = record { ledger = ledger; next = Ok at }

-- the text cannot be read at a byte
abbrev pub broken_with : Ledger → ℕ → Step
broken_with ledger at = record { ledger = ledger; next = Err (unreadable at) }

-- on with the rest after a command; where that is broken, the ledger stays as it was
abbrev pub go_on : Ledger → Reading Ledger → (ℕ → Ledger → Step) → Step
go_on ledger (Ok read) rest = rest read.next read.value
go_on ledger (Err broken) rest = record { ledger = ledger; next = Err broken }

-- command after command from a place on, among so many at most, until one is broken or the text ends
unfoldable pub replay_from : ℕ → List ℕ → ℕ → Ledger → Step
replay_from zero text at ledger = read_with ledger at
replay_from (suc left) text at ledger =
    cond (ltb at (length text)) (go_on ledger (ledger_after text at ledger) (replay_from left text))
    (read_with ledger at)

-- "more than 524,288 bytes" cannot be read
abbrev pub longest_text : ℕ
longest_text = 524288

-- the ledger after a journal, and the error's byte where it is broken; "before any `open` or `load` the ledger is the
-- all-zero one"; "a text too long prints that line alone, with B 524288"
unfoldable pub replayed : List ℕ → Step
replayed text =
    cond (ltb longest_text (length text)) (broken_with (empty_ledger 0) longest_text)
    (replay_from (length text) text 0 (empty_ledger 0))

-- the most bytes of an answer: none is longer
abbrev pub longest_answer : ℕ
longest_answer = 262144
