-- "Refusals by cause" of document 01 and those that document 02 adds: the number of each refusal and the values
-- returned with it, case by case.
-- Assumes nothing.
use Rattle.std.specs.Prelude.{Bool, true, false, List, [], ◌∷◌, ℕ, Result, Ok, Err}
use Rattle.numbers.specs.declared.refusal.Refusal.{Refusal}
use Rattle.numbers.specs.declared.refusal.Refusal.TheVariants.{WrongCount, Unsound, WrongLength, OutOfTurn}
use Rattle.numbers.specs.declared.refusal.Refusal.TheVariants.{NoFixing, OutOfRange, ValueTooLarge, WrongSector}
use Rattle.numbers.specs.declared.refusal.Refusal.TheVariants.{NoLine, MonthMissing, OutOfBounds, WrongReading}
use Rattle.numbers.specs.declared.refusal.Refusal.TheVariants.{PositionBeyond, NoLineMoved, LedgerFull, WrongDay}
use Rattle.numbers.specs.declared.refusal.Refusal.TheVariants.{WrongSheetLength, ZeroReading}

-- the number of an answer (0: accepted) and the values returned with it; an empty list stands for the zeros
pub record Answered : Type 0 where
  pub number : ℕ
  pub values : List ℕ

-- a number whose values are zeros
abbrev pub without_values : ℕ → Answered
without_values number = record { number = number; values = [] }

abbrev pub accepted : List ℕ → Answered
accepted values = record { number = 0; values = values }

abbrev pub refusal_answered : Refusal → Answered
refusal_answered WrongCount = without_values 1
refusal_answered Unsound = without_values 2
refusal_answered WrongLength = without_values 3
refusal_answered OutOfTurn = without_values 4
refusal_answered NoFixing = without_values 5
refusal_answered OutOfRange = without_values 6
refusal_answered ValueTooLarge = without_values 7
refusal_answered WrongSector = without_values 8
refusal_answered NoLine = without_values 9
refusal_answered (MonthMissing line term) = record { number = 10; values = line ∷ term ∷ [] }
refusal_answered (OutOfBounds line) = record { number = 11; values = line ∷ [] }
refusal_answered WrongReading = without_values 12
refusal_answered PositionBeyond = without_values 13
-- "14 when no line moved by more than 10%"
refusal_answered NoLineMoved = without_values 14
-- "15 when the ledger already has 40"
refusal_answered LedgerFull = without_values 15
-- "16 when the day isn't in its month, or .."
refusal_answered WrongDay = without_values 16
-- "17 when the sheet ends early or has bytes left"
refusal_answered WrongSheetLength = without_values 17
-- "18 when a present reading is zero"
refusal_answered ZeroReading = without_values 18

-- the verdict on a call: that it passes, or why it is refused
abbrev pub Verdict : Type 0
Verdict = Result (Unit {0}) Refusal

-- what a call answers by its verdict: what it works where that passes, else the refusal
abbrev pub answer_by : {A : Type 0} → Verdict → A → Result A Refusal
answer_by (Ok passed) worked = Ok worked
answer_by (Err refusal) worked = Err refusal

-- of an answer, where what passes returns these values
abbrev pub result_answered : {A : Type 0} → (A → List ℕ) → Result A Refusal → Answered
result_answered values (Ok given) = accepted (values given)
result_answered values (Err refusal) = refusal_answered refusal

-- of a verdict
abbrev pub verdict_answered : List ℕ → Verdict → Answered
verdict_answered values verdict = result_answered (λ _. values) verdict

abbrev pub is_passed : {A : Type 0} → Result A Refusal → Bool
is_passed (Ok given) = true
is_passed (Err refusal) = false
