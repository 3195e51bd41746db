-- What the two open calls are to each other, from what they promise. Assumes nothing.
use mathlib.Core.Path.{◌≡◌, sym, ◌∙◌, ap}
use mathlib.Core.Bool.{true, cond}
use mathlib.Core.List.{List, ◌++◌}
use Prim.Native.Nat.{ℕ, ◌*◌}
use lib.ListN.{length, take, drop}
use lib.Seq.{take_at}
use Rattle.numbers.specs.Checks.{verdict_of}
use Rattle.numbers.specs.Refusal.{is_passed}
use Rattle.numbers.specs.Required.{ValuesWithin}
use Rattle.numbers.specs.Sizes.{distributor_readings, most_reading, most_distributors}
use Rattle.numbers.specs.Units.{between}
use Rattle.numbers.specs.declared.refusal.Refusal.TheVariants.{WrongCount, WrongReading}
use Rattle.numbers.specs.Refusal.{Verdict}
use Rattle.std.specs.Prelude.{Ok}
use Rattle.numbers.proofs.UnitLaws.{values_within}
use Rattle.numbers.proofs.CheckLaws.{FirstPass, passed_test, verdict_from, all_passed}
use Rattle.sheet.specs.Sheet.{sheet_bytes, sheet_readings, sheet_checks}
use Rattle.sheet.specs.Read.{read_checks, read_list, ReadPromise}
use Rattle.sheet.specs.Write.{write_checks, write_verdict, written_first, written_buffer}
use Rattle.sheet.specs.Write.{WritePromise}
use Rattle.sheet.proofs.WrittenLaws.{written_passes, written_read}
use Rattle.sheet.proofs.CanonicalLaws.{canonical}
use Rattle.sheet.proofs.ReadLaws.{read_due}
use Rattle.sheet.proofs.WriteLaws.{writable, written_passed}

-- what an accepted write says
module _ (n : ℕ) (readings buffer : List ℕ) (used : ℕ) (left : List ℕ)
    (promise : WritePromise n readings buffer (Ok used) left) where
  accepted : write_verdict n readings buffer ≡ Ok tt
  accepted = (written_passed n readings buffer used left promise).0

  used_is : used ≡ length (sheet_bytes n readings)
  used_is = (written_passed n readings buffer used left promise).1

  left_is : left ≡ sheet_bytes n readings ++ drop (length (sheet_bytes n readings)) buffer
  unfolding written_buffer written_first
  left_is =
      promise.listed ∙ ap (λ v. cond (is_passed v) (written_first (sheet_bytes n readings) buffer) buffer) accepted

  sheet_is : take used left ≡ sheet_bytes n readings
  sheet_is = ap (take used) left_is ∙ take_at (sheet_bytes n readings) _ used (sym used_is)

  tests : FirstPass 3 (write_checks n readings buffer)
  unfolding write_verdict write_checks
  tests = all_passed (write_checks n readings buffer) accepted

  count_passed : between 1 most_distributors n ≡ true
  unfolding write_checks FirstPass
  count_passed = passed_test WrongCount _ tests.0

  readings_long : length readings ≡ n * distributor_readings
  readings_long = (writable n readings buffer accepted).read

  readings_within : ValuesWithin most_reading readings
  unfolding write_checks FirstPass
  readings_within = values_within 0 most_reading readings (passed_test WrongReading _ tests.1.1.0)

  read_passes : (lent : List ℕ) → length lent ≡ n * distributor_readings →
      verdict_of (read_checks n (sheet_bytes n readings) lent) ≡ Ok tt
  read_passes lent e =
      read_due n (sheet_bytes n readings) lent count_passed e ∙ written_passes n readings readings_within

  pub written_is_read : (lent list : List ℕ) (verdict : Verdict) → length lent ≡ n * distributor_readings →
      ReadPromise n (take used left) lent verdict list → (verdict ≡ Ok tt) × (list ≡ readings)
  unfolding read_list
  written_is_read lent list verdict e read =
      let passed : verdict_of (read_checks n (take used left) lent) ≡ Ok tt =
      ap (λ sheet. verdict_of (read_checks n sheet lent)) sheet_is ∙ read_passes lent e in (
        read.judged.answered ∙ passed,
        read.listed ∙ ap (λ v. cond (is_passed v) (sheet_readings n (take used left)) lent) passed
            ∙ ap (sheet_readings n) sheet_is ∙ written_read n readings readings_within readings_long,
      )

-- an accepted sheet of bytes is the sheet of its readings
accepted_sheet : (n : ℕ) (sheet lent list : List ℕ) → ValuesWithin 255 sheet → ReadPromise n sheet lent (Ok tt) list →
    sheet ≡ sheet_bytes n list
unfolding read_checks read_list FirstPass
accepted_sheet n sheet lent list bytes read =
    let passed : verdict_of (read_checks n sheet lent) ≡ Ok tt = sym read.judged.answered in
    let readings : list ≡ sheet_readings n sheet =
    read.listed ∙ ap (λ v. cond (is_passed v) (sheet_readings n sheet) lent) passed in
    let tests = all_passed (read_checks n sheet lent) passed in
    let rest : verdict_of (sheet_checks n sheet) ≡ Ok tt =
    sym (verdict_from 2 (read_checks n sheet lent) (tests.0, (tests.1.0, tt))) ∙ passed in
    canonical sheet bytes n rest ∙ ap (sheet_bytes n) (sym readings)

pub equal_readings : (n : ℕ) (one other lent also list : List ℕ) → ValuesWithin 255 one → ValuesWithin 255 other →
    ReadPromise n one lent (Ok tt) list → ReadPromise n other also (Ok tt) list → one ≡ other
equal_readings n one other lent also list p q first second =
    accepted_sheet n one lent list p first ∙ sym (accepted_sheet n other also list q second)
