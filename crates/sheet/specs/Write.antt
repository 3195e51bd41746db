-- The open call that writes a month sheet (W-209 of document 02): its checks in their order, how many bytes it uses,
-- and the lent buffer after it. Assumes nothing.
use Rattle.std.specs.Prelude.{◌≡◌, Bool, cond, ◌&&◌, List, [], ◌∷◌, ◌++◌, ℕ, ◌*◌, eqb, leb, length, drop, Result}
use Rattle.numbers.specs.Refusal.{Verdict, is_passed}
use Rattle.numbers.specs.Checks.{Check, check, verdict_of, AnswersBy}
use Rattle.numbers.specs.Sizes.{most_distributors, distributor_readings, most_reading}
use Rattle.numbers.specs.Units.{between, all_between}
use Rattle.numbers.specs.declared.refusal.Refusal.TheVariants.{WrongCount, WrongLength, WrongReading}
use Rattle.numbers.specs.declared.refusal.Refusal.{Refusal}
use Rattle.sheet.specs.Sheet.{sheet_bytes}

-- "a lent buffer of at least 132n bytes": a map and 32 readings
abbrev pub most_distributor_bytes : ℕ
most_distributor_bytes = 132

-- whether readings and buffer have their lengths
unfoldable pub write_lengths : ℕ → List ℕ → List ℕ → Bool
write_lengths n readings buffer =
    eqb (length readings) (n * distributor_readings) && leb (n * most_distributor_bytes) (length buffer)

-- "1 covers an n outside 1 to 40"; lengths; "the writer meets 12 at a reading above the limit"
unfoldable pub write_checks : ℕ → List ℕ → List ℕ → List Check
write_checks n readings buffer =
    check 1 (between 1 most_distributors n) WrongCount
    ∷ check 3 (write_lengths n readings buffer) WrongLength
    ∷ check 12 (all_between 0 most_reading readings) WrongReading
    ∷ []

unfoldable pub write_verdict : ℕ → List ℕ → List ℕ → Verdict
write_verdict n readings buffer = verdict_of (write_checks n readings buffer)

-- bytes first in a buffer "leaving the rest", which is as it was
unfoldable pub written_first : List ℕ → List ℕ → List ℕ
written_first bytes buffer = bytes ++ drop (length bytes) buffer

-- the lent buffer after the call: where it is refused as it was
unfoldable pub written_buffer : ℕ → List ℕ → List ℕ → List ℕ
written_buffer n readings buffer =
    cond (is_passed (write_verdict n readings buffer)) (written_first (sheet_bytes n readings) buffer) buffer

-- what the open call promises, for every n, readings and lent buffer: its answer, "saying how much it used" where it is
-- accepted, with its number and values, and the buffer
pub record WritePromise (n : ℕ) (readings buffer : List ℕ) (answer : Result ℕ Refusal) (left : List ℕ) : Type 0 where
  pub judged : AnswersBy (λ used. used ∷ []) answer (write_checks n readings buffer) (length (sheet_bytes n readings))
  pub listed : left ≡ written_buffer n readings buffer
