-- Refusals that have no place, and what stands under a line. Assumes nothing.
use mathlib.Core.Path.{◌≡◌, refl, sym}
use mathlib.Core.Bool.{Bool, true}
use mathlib.Core.List.{List, [], ◌++◌, append_assoc}
use Prim.Native.Nat.{ℕ}
use Rattle.std.specs.Prelude.{Result, Ok, Err, is_ok}
use Rattle.numbers.specs.Refusal.{refusal_answered}
use lib.ListN.{take, drop}
use Rattle.text.specs.Row.{numbers_line}
use Rattle.answers.specs.Answer.{under_text, answer_text, changed_text, used_line, sheet_written_rows, sheet_written_text}
use Rattle.numbers.specs.declared.refusal.Refusal.{Refusal}
use Rattle.numbers.specs.declared.refusal.Refusal.TheVariants.{WrongCount, Unsound, WrongLength, OutOfTurn, NoFixing}
use Rattle.numbers.specs.declared.refusal.Refusal.TheVariants.{OutOfRange, ValueTooLarge, WrongSector, NoLine}
use Rattle.numbers.specs.declared.refusal.Refusal.TheVariants.{MonthMissing, OutOfBounds, WrongReading}
use Rattle.numbers.specs.declared.refusal.Refusal.TheVariants.{PositionBeyond, NoLineMoved, LedgerFull, WrongDay}
use Rattle.numbers.specs.declared.refusal.Refusal.TheVariants.{WrongSheetLength, ZeroReading}

pub place_none : (r : Refusal) → ((line term : ℕ) → r ≡ MonthMissing line term → ⊥) →
    ((line : ℕ) → r ≡ OutOfBounds line → ⊥) → (refusal_answered r).values ≡ []
place_none WrongCount h k = refl
place_none Unsound h k = refl
place_none WrongLength h k = refl
place_none OutOfTurn h k = refl
place_none NoFixing h k = refl
place_none OutOfRange h k = refl
place_none ValueTooLarge h k = refl
place_none WrongSector h k = refl
place_none NoLine h k = refl
place_none (MonthMissing line term) h k = absurd (h line term refl)
place_none (OutOfBounds line) h k = absurd (k line refl)
place_none WrongReading h k = refl
place_none PositionBeyond h k = refl
place_none NoLineMoved h k = refl
place_none LedgerFull h k = refl
place_none WrongDay h k = refl
place_none WrongSheetLength h k = refl
place_none ZeroReading h k = refl

-- an answer is its line and what stands under it
pub answer_under : {A : Type 0} (line : List ℕ) (answer : Result A Refusal) (rows : List ℕ) (unwritten : Bool) →
    line ++ under_text (is_ok answer) rows unwritten ≡ answer_text line answer rows unwritten
unfolding answer_text under_text
answer_under line (Ok given) rows unwritten = refl
answer_under line (Err refusal) rows unwritten = refl

pub written_under : {A : Type 0} (shown : A → List ℕ) (unwritten : List A → Bool) (name : List ℕ) (used : ℕ)
    (buffer : List A) →
    used_line name (Ok used) ++ sheet_written_rows shown unwritten true used buffer
    ≡ sheet_written_text shown unwritten name (Ok used) buffer
unfolding sheet_written_rows sheet_written_text
written_under shown unwritten name used buffer =
    sym
    (append_assoc (used_line name (Ok used)) (numbers_line shown (take used buffer))
    (changed_text (unwritten (drop used buffer))))
