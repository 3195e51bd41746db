-- The commands of a journal (docs/JOURNAL.md, "Input"): which one stands next, and the form of what follows its word.
-- Assumes nothing.
use Rattle.std.specs.Prelude.{Bool, true, false, cond, List, [], ◌∷◌, ℕ, eqb, length, Result, Ok, Option, Some, None}
use Rattle.std.specs.Prelude.{option_map, bytes_eq}
use Rattle.std.specs.List.{find}
use Prim.Native.String.{String}
use Rattle.numbers.specs.Sizes.{most_distributors, sector_places}
use Rattle.text.specs.Text.{bytes, name_text}
use Rattle.journal.specs.Token.{token_after, bytes_of}
use Rattle.journal.specs.Cursor.{and_then, token_read, most_word}
use Rattle.journal.specs.Form.{part, nothing}
use Rattle.journal.specs.declared.cursor.Unreadable.{Unreadable}
use Rattle.journal.specs.declared.cursor.Read.{Read}
use Rattle.journal.specs.declared.command.Command.{Command}
use Rattle.journal.specs.declared.command.Command.TheVariants.{Open, Fix, Settle, Save, Load, Interim, Join}
use Rattle.journal.specs.declared.command.Command.TheVariants.{ReadSheet, WriteSheet}
use Rattle.journal.specs.declared.command.CommandRow.{CommandRow}
use Rattle.journal.specs.declared.form.Kind.{Kind}
use Rattle.journal.specs.declared.form.Kind.TheVariants.{Number, List as Words, Signed, Length}
use Rattle.journal.specs.declared.form.Part.{Part}

-- "more than 8,192 words" cannot be read
abbrev pub longest_list : ℕ
longest_list = 8192

-- any number, and any list that a call is lent
abbrev number : Kind
number = Number most_word

abbrev list : Kind
list = Words longest_list most_word

abbrev pub empty_form : List Part
empty_form = []

-- "open N"
abbrev pub open_form : List Part
open_form = part "N           " number ∷ []

-- "fix MONTH DOLLAR FACTOR FIRST DAY series K .. lines K .. sectors K .. prices K power K"; "interim MONTH DOLLAR
-- FACTOR FIRST DAY series K .. lines K .. sectors K .. inforce K .. prices K power K"
abbrev pub fixing_form : Bool → List Part
fixing_form is_interim =
    part "MONTH       " number ∷ part "DOLLAR      " number ∷ part "FACTOR      " number ∷ part "FIRST       " number
    ∷ part "DAY         " number ∷ part "series      " list ∷ part "lines       " list ∷ part "sectors     " list
    ∷ cond is_interim (part "inforce     " list) nothing ∷ part "prices      " (Length longest_list)
    ∷ part "power       " (Length longest_list) ∷ []

-- "settle MONTH readings K .. losses K .. transfers K"
abbrev pub settle_form : List Part
settle_form =
    part "MONTH       " number ∷ part "readings    " list ∷ part "losses      " list
    ∷ part "transfers   " (Length longest_list) ∷ []

-- "load N LAST FIXED MONTH DAY OLDER present K .. charges K .. olderpresent K .. oldercharges K .. balances K .. counts
-- K .."; "FIXED, OLDER and the words of `present` and `olderpresent` are 0 or 1"
abbrev pub load_form : List Part
load_form =
    part "N           " number ∷ part "LAST        " number ∷ part "FIXED       " (Number 1)
    ∷ part "MONTH       " number ∷ part "DAY         " number ∷ part "OLDER       " (Number 1)
    ∷ part "present     " (Words sector_places 1) ∷ part "charges     " (Signed sector_places)
    ∷ part "olderpresent" (Words sector_places 1) ∷ part "oldercharges" (Signed sector_places)
    ∷ part "balances    " (Signed most_distributors) ∷ part "counts      " (Words most_distributors most_word) ∷ []

-- "readsheet N sheet K .. readings K": "K bytes (at most 8,192; a byte is 0 to 255), then the length of the lent list"
abbrev pub read_sheet_form : List Part
read_sheet_form =
    part "N           " number ∷ part "sheet       " (Words longest_list 255)
    ∷ part "readings    " (Length longest_list) ∷ []

-- "writesheet N readings K .. sheet K"
abbrev pub write_sheet_form : List Part
write_sheet_form =
    part "N           " number ∷ part "readings    " list ∷ part "sheet       " (Length longest_list)
    ∷ []

abbrev pub command_form : Command → List Part
command_form Open = open_form
command_form Fix = fixing_form false
command_form Settle = settle_form
command_form Save = empty_form
command_form Load = load_form
command_form Interim = fixing_form true
command_form Join = empty_form
command_form ReadSheet = read_sheet_form
command_form WriteSheet = write_sheet_form

-- the same where there may be no command, which nothing follows
abbrev pub form_by : Option Command → List Part
form_by (Some command) = command_form command
form_by None = empty_form

-- the commands by their names
abbrev row : String → Command → CommandRow
row name command = record { 0 = bytes name; 1 = command }

abbrev pub command_rows : List CommandRow
command_rows =
    row "open        " Open ∷ row "fix         " Fix ∷ row "settle      " Settle ∷ row "save        " Save
    ∷ row "load        " Load ∷ row "interim     " Interim ∷ row "join        " Join
    ∷ row "readsheet   " ReadSheet ∷ row "writesheet  " WriteSheet ∷ []

-- the command of a word
unfoldable pub command_named : List ℕ → Option Command
command_named word = option_map (λ row. row.1) (find (λ row. bytes_eq word (name_text row.0)) command_rows)

-- the next token's command, or none where no token is left; "an unknown word"
unfoldable pub command_after : List ℕ → ℕ → Result (Option (Read Command)) Unreadable
command_after text at =
    let token = token_after text at in
    cond (eqb token.start (length text)) (Ok None)
    (and_then (token_read token (command_named (bytes_of text token))) (λ read. Ok (Some read)))
