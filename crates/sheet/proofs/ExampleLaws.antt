-- The month sheet worked by hand, by computation: it is written so and read so; and of two causes the one at the
-- earlier place. Assumes nothing.
use mathlib.Core.Path.{◌≡◌, refl}
use Prim.Native.Nat.{ℕ}
use Rattle.numbers.specs.Checks.{verdict_of}
use Rattle.numbers.specs.declared.refusal.Refusal.TheVariants.{WrongSheetLength, ZeroReading}
use Rattle.std.specs.Prelude.{Ok, Err}
use Rattle.numbers.proofs.Computed.{numbers_computed}
use Rattle.sheet.specs.Number.{number_bytes, number_at}
use Rattle.sheet.specs.Sheet.{presence_bit, bit_map, reading_bytes, distributor_bytes, sheet_bytes}
use Rattle.sheet.specs.Sheet.{bit_of, reading_place, map_place, reading_by, reading_at, sheet_readings}
use Rattle.sheet.specs.Sheet.{whole_check, reading_checks, distributor_checks, sheet_checks}
use Rattle.sheet.specs.Example.{example_readings, example_sheet, zero_then_short, short_before_zero}

unfoldable sheet_computed : ℕ
unfolding numbers_computed number_bytes number_at presence_bit bit_map reading_bytes distributor_bytes sheet_bytes
    bit_of reading_place map_place reading_by reading_at sheet_readings whole_check reading_checks distributor_checks
    sheet_checks
sheet_computed = 0

pub example_written : sheet_bytes 2 example_readings ≡ example_sheet
unfolding sheet_computed
example_written = refl

pub example_read : sheet_readings 2 example_sheet ≡ example_readings
unfolding sheet_computed
example_read = refl

pub example_passed : verdict_of (sheet_checks 2 example_sheet) ≡ Ok tt
unfolding sheet_computed
example_passed = refl

pub example_zero_first : verdict_of (sheet_checks 1 zero_then_short) ≡ Err ZeroReading
unfolding sheet_computed
example_zero_first = refl

pub example_short_first : verdict_of (sheet_checks 1 short_before_zero) ≡ Err WrongSheetLength
unfolding sheet_computed
example_short_first = refl

pub example_bytes_left : verdict_of (sheet_checks 1 example_sheet) ≡ Err WrongSheetLength
unfolding sheet_computed
example_bytes_left = refl
