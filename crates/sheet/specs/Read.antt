-- The open call that reads a month sheet (W-209 of document 02): its checks in their order, and the readings written.
-- Assumes nothing.
use Rattle.std.specs.Prelude.{◌≡◌, cond, List, ◌∷◌, ℕ, ◌*◌, eqb, length}
use Rattle.numbers.specs.Refusal.{is_passed}
use Rattle.numbers.specs.Checks.{Check, check, verdict_of, Judged}
use Rattle.numbers.specs.Sizes.{most_distributors, distributor_readings}
use Rattle.numbers.specs.Units.{between}
use Rattle.numbers.specs.declared.refusal.Refusal.TheVariants.{WrongCount, WrongLength}
use Rattle.numbers.specs.Refusal.{Verdict}
use Rattle.sheet.specs.Sheet.{sheet_readings, sheet_checks}

-- "1 covers an n outside 1 to 40"; "a lent list of 32n words"; 17 and 18 "both after 3". No reading is put to its
-- limit: "any later check is the settlement's"
unfoldable pub read_checks : ℕ → List ℕ → List ℕ → List Check
read_checks n sheet lent =
    check 1 (between 1 most_distributors n) WrongCount
    ∷ check 3 (eqb (length lent) (n * distributor_readings)) WrongLength
    ∷ sheet_checks n sheet

-- the lent list after the call: where it is refused as it was
unfoldable pub read_list : ℕ → List ℕ → List ℕ → List ℕ
read_list n sheet lent = cond (is_passed (verdict_of (read_checks n sheet lent))) (sheet_readings n sheet) lent

-- what the open call promises, for every n, sheet and lent list: verdict with its number and values, and written list
pub record ReadPromise (n : ℕ) (sheet lent : List ℕ) (verdict : Verdict) (list : List ℕ) : Type 0 where
  pub judged : Judged verdict (read_checks n sheet lent)
  pub listed : list ≡ read_list n sheet lent
