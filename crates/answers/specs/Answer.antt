-- What the commands of a journal answer (docs/JOURNAL.md, "Output"): the text of each line, and of a whole answer.
-- Assumes nothing.
use Rattle.std.specs.Prelude.{Bool, cond, ◌&&◌, List, [], ◌∷◌, ◌++◌, ℕ, eqb, take, drop, ℤ, negsuc, Result, Ok, Err}
use Prim.Native.String.{String}
use Rattle.std.specs.List.{list_all}
use Rattle.std.specs.Ordering.{int_eq}
use Rattle.numbers.specs.Refusal.{Verdict, refusal_answered}
use Rattle.numbers.specs.Sizes.{distributor_readings}
use Rattle.numbers.specs.declared.refusal.Refusal.{Refusal}
use Rattle.numbers.specs.declared.units.Pesos.{Pesos}
use Rattle.ledger.specs.Fix.{FixingAnswer}
use Rattle.ledger.specs.declared.fix.FixingValues.{FixingValues}
use Rattle.text.specs.Text.{bytes, blank, line_end, decimal, integer}
use Rattle.text.specs.Row.{rows_text, numbers_line}

-- a name, and a number after a blank
abbrev item : String → ℕ → List ℕ
item name number = bytes name ++ blank ∷ decimal number

-- "open refused 1": a refused command and a number, which is that of its refusal
unfoldable pub refused_by : List ℕ → ℕ → List ℕ
refused_by name number = name ++ item " refused" number

unfoldable pub refused_text : List ℕ → Refusal → List ℕ
refused_text name refusal = refused_by name (refusal_answered refusal).number

-- "open accepted", "open refused 1"
unfoldable pub outcome_line : List ℕ → Verdict → List ℕ
outcome_line name (Ok passed) = name ++ (bytes " accepted" ++ line_end ∷ [])
outcome_line name (Err refusal) = refused_text name refusal ++ line_end ∷ []

-- "writesheet accepted used U"
unfoldable pub used_line : List ℕ → Result ℕ Refusal → List ℕ
used_line name (Ok used) = name ++ item " accepted used" used ++ line_end ∷ []
used_line name (Err refusal) = outcome_line name (Err refusal)

-- "journal error at byte B"
unfoldable pub error_line : ℕ → List ℕ
error_line at = item "journal error at byte" at ++ line_end ∷ []

-- "`replay` prints the line `changed`"
abbrev pub changed_line : List ℕ
changed_line = bytes "changed" ++ line_end ∷ []

-- "line J term T", "line J": by the values of the refusal
abbrev pub place_text : List ℕ → List ℕ
place_text [] = []
place_text (line ∷ []) = item " line" line
place_text (line ∷ term ∷ more) = item " line" line ++ item " term" term

-- "limit L surcharge R rounds C residue S"
unfoldable pub values_line : FixingValues → List ℕ
values_line values =
    item "limit" values.limit.0 ++ item " surcharge" values.surcharge.0 ++ item " rounds" values.rounds
    ++ item " residue" values.residue.0 ++ line_end ∷ []

-- "fix accepted limit L surcharge R rounds C residue S"; "fix refused 10 line J term T", "fix refused 11 line J", "fix
-- refused NUMBER"
unfoldable pub fixing_line : List ℕ → FixingAnswer → List ℕ
fixing_line name (Ok values) = name ++ bytes " accepted " ++ values_line values
fixing_line name (Err refusal) =
    refused_text name refusal ++ place_text (refusal_answered refusal).values ++ line_end ∷ []

-- whether a lent list is as it was lent, with this in every place
unfoldable pub all_unwritten : {A : Type 0} → (A → A → Bool) → A → List A → Bool
all_unwritten same unwritten list = list_all (λ x. same x unwritten) list

-- "it is lent with every word -1"
abbrev pub signed_unwritten : List ℤ → Bool
signed_unwritten list = all_unwritten int_eq (negsuc 0) list

-- "it is lent with every word 18446744073709551615"
abbrev pub unwritten_word : ℕ
unwritten_word = 18446744073709551615

-- "the buffer is lent with every byte 255"
abbrev pub unwritten_byte : ℕ
unwritten_byte = 255

-- nothing where what was lent is as it was lent, and else the line `changed`
unfoldable pub changed_text : Bool → List ℕ
changed_text unwritten = cond unwritten [] changed_line

-- what stands under the line of a command: rows where it was accepted, and else what a change of a lent list gives
unfoldable pub under_text : Bool → List ℕ → Bool → List ℕ
under_text accepted rows unwritten = cond accepted rows (changed_text unwritten)

-- "One line for each command, and rows under an accepted one"
unfoldable pub answer_text : {A : Type 0} → List ℕ → Result A Refusal → List ℕ → Bool → List ℕ
answer_text line (Ok given) rows unwritten = line ++ rows
answer_text line (Err refusal) rows unwritten = line ++ changed_text unwritten

-- "I TRANSFER BALANCE"; "if a word of it is no longer -1, `replay` prints the line `changed`"
unfoldable pub settled_rows : Bool → List ℤ → List Pesos → List ℕ
settled_rows accepted transfers balances =
    under_text accepted (rows_text integer (λ balance. integer balance.0) transfers 1 balances)
    (signed_unwritten transfers)

unfoldable pub settled_text : List ℕ → Verdict → List ℤ → List Pesos → List ℕ
settled_text name answer transfers balances =
    answer_text (outcome_line name answer) answer
    (rows_text integer (λ balance. integer balance.0) transfers 1 balances)
    (signed_unwritten transfers)

-- "I AVERAGE FINAL CHARGE POWER"; "`changed` is printed once where either list changed in a refused call"
unfoldable pub fixed_rows : Bool → List ℤ → List ℕ → List ℕ
fixed_rows accepted prices power =
    under_text accepted (rows_text integer decimal prices 3 power)
    (signed_unwritten prices && all_unwritten eqb unwritten_word power)

unfoldable pub fixed_text : List ℕ → FixingAnswer → List ℤ → List ℕ → List ℕ
fixed_text name answer prices power =
    answer_text (fixing_line name answer) answer (rows_text integer decimal prices 3 power)
    (signed_unwritten prices && all_unwritten eqb unwritten_word power)

-- "with a row `I R0 .. R31` for each distributor"
unfoldable pub sheet_read_rows : Bool → List ℕ → List ℕ
sheet_read_rows accepted readings =
    under_text accepted (rows_text {B = ℕ} decimal decimal readings distributor_readings [])
    (all_unwritten eqb unwritten_word readings)

unfoldable pub sheet_read_text : List ℕ → Verdict → List ℕ → List ℕ
sheet_read_text name answer readings =
    answer_text (outcome_line name answer) answer (rows_text {B = ℕ} decimal decimal readings distributor_readings [])
    (all_unwritten eqb unwritten_word readings)

-- "and one line with the U bytes as numbers"; "`changed` is printed also where a byte past the U used ones is no longer
-- 255"
unfoldable pub sheet_written_rows : {A : Type 0} → (A → List ℕ) → (List A → Bool) → Bool → ℕ → List A → List ℕ
sheet_written_rows shown unwritten accepted used buffer =
    cond accepted (numbers_line shown (take used buffer)) [] ++ changed_text (unwritten (drop used buffer))

unfoldable pub sheet_written_text : {A : Type 0} → (A → List ℕ) → (List A → Bool) → List ℕ → Result ℕ Refusal → List A →
    List ℕ
sheet_written_text shown unwritten name (Ok used) buffer =
    used_line name (Ok used) ++ numbers_line shown (take used buffer) ++ changed_text (unwritten (drop used buffer))
sheet_written_text shown unwritten name (Err refusal) buffer =
    used_line name (Err refusal) ++ changed_text (unwritten buffer)
