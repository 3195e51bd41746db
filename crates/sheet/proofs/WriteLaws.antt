-- Laws of writing a sheet: the sizes of its parts, the loops that write them, and the open call's promise. Assumes
-- nothing.
use mathlib.Core.Path.{◌≡◌, refl, sym, ◌∙◌, ap}
use mathlib.Core.Bool.{true, false, cond}
use mathlib.Core.List.{List, ◌++◌}
use Prim.Native.Nat.{ℕ, ◌+◌, ◌*◌, ◌^◌, ◌≤◌}
use native.Mathlib.Numerals.{add-one}
use native.Mathlib.Nat.{pow-suc, pow-le-pow_right, mul-le-mul_right}
use native.Mathlib.Omega.{arith}
use lib.Dec.{eqb, leb}
use lib.ListN.{length, get_or, length-append}
use borrow.Author.Tests.{eqb-true, leb-true}
use Rattle.numbers.specs.Bounded.{sum_below, join_below}
use Rattle.numbers.specs.Checks.{verdict_of}
use Rattle.numbers.specs.Refusal.{is_passed}
use Rattle.numbers.specs.Sizes.{most_distributors, distributor_readings, most_reading}
use Rattle.numbers.specs.Units.{between, all_between}
use Rattle.numbers.specs.declared.refusal.Refusal.{Refusal}
use Rattle.numbers.specs.declared.refusal.Refusal.TheVariants.{WrongCount, WrongLength, WrongReading}
use Rattle.numbers.specs.Refusal.{Verdict}
use Rattle.std.specs.Prelude.{Ok, Err}
use Rattle.numbers.proofs.BoolLaws.{and_left, and_right}
use Rattle.numbers.proofs.CheckLaws.{FirstPass, AllTold, passed_test, all_passed, check_told, answers_by}
use Rattle.numbers.proofs.UnitLaws.{between_high}
use Rattle.numbers.proofs.SumLaws.{sum_step}
use Rattle.numbers.proofs.JoinLaws.{join_step, join_most}
use Rattle.sheet.specs.Number.{number_size, number_bytes}
use Rattle.sheet.specs.Sheet.{readings_of, presence_bit, bit_map, reading_bytes, distributor_bytes, sheet_bytes}
use Rattle.sheet.specs.Write.{most_distributor_bytes, write_lengths, write_checks, write_verdict}
use Rattle.sheet.specs.Write.{written_first, written_buffer, WritePromise}
use Rattle.sheet.specs.Required.{Writable, FirstWritten}
use Rattle.sheet.proofs.NumberLaws.{number_size_lem}
use Rattle.sheet.proofs.BitLaws.{bits_below}
use Rattle.sheet.proofs.MapLaws.{presence_most, reading_size}
use Rattle.sheet.proofs.FrontLaws.{front_long}
use Rattle.numbers.proofs.CheckLaws.{answer_passed}

-- the loop over the bits of a map
pub record BitsAdded (readings : List ℕ) (map power b : ℕ) : Type 0 where
  pub raised : power ≡ 2 ^ b
  pub sum : map ≡ sum_below b (λ j. presence_bit (get_or readings j 0) * 2 ^ j)

pub bits_none : (readings : List ℕ) → BitsAdded readings 0 1 0
unfolding sum_below
bits_none readings = record { raised = refl; sum = refl }

module _ {readings : List ℕ} {map power b : ℕ} (h : BitsAdded readings map power b) where
  module _ (most : b ≤ distributor_readings) where
    pub power_most : power ≤ 2 ^ 32
    power_most = rw h.raised (pow-le-pow_right (omega arith) most)

    pub product_most : presence_bit (get_or readings b 0) * power ≤ 2 ^ 32
    product_most = omega (arith, power_most, mul-le-mul_right power (presence_most (get_or readings b 0)))

    pub map_most : map ≤ 2 ^ 32
    map_most =
        omega (
          arith,
          power_most,
          h.raised,
          h.sum,
          bits_below (λ j. presence_bit (get_or readings j 0)) b (λ j p. presence_most (get_or readings j 0)),
        )

  pub bits_more : BitsAdded readings (map + presence_bit (get_or readings b 0) * power) (power * 2) (b + 1)
  bits_more =
      record {
        raised = rw (h.raised, add-one) (sym (pow-suc 2 b));
        sum = rw (sum_step b (λ j. presence_bit (get_or readings j 0) * 2 ^ j), h.sum, h.raised) refl;
      }

  pub bits_all : b ≡ distributor_readings → map ≡ bit_map readings
  unfolding bit_map
  bits_all e = h.sum ∙ ap (λ k. sum_below k (λ j. presence_bit (get_or readings j 0) * 2 ^ j)) e

-- the bytes of the readings before b
abbrev pub bytes_before : List ℕ → ℕ → List ℕ
bytes_before readings b = join_below b (λ j. reading_bytes (get_or readings j 0))

-- at most 4 bytes for each, and 4 for the map
pub reading_most : (reading : ℕ) → length (reading_bytes reading) ≤ number_size
reading_most reading = omega (arith, reading_size reading, presence_most reading)

pub before_most : (readings : List ℕ) (b : ℕ) → length (bytes_before readings b) ≤ b * number_size
before_most readings b =
    join_most (λ j. reading_bytes (get_or readings j 0)) b number_size (λ j. reading_most (get_or readings j 0))

pub distributor_most : (readings : List ℕ) → length (distributor_bytes readings) ≤ most_distributor_bytes
unfolding distributor_bytes
distributor_most readings =
    omega (
      arith,
      length-append (number_bytes (bit_map readings)) (bytes_before readings distributor_readings),
      number_size_lem (bit_map readings),
      before_most readings distributor_readings,
    )

-- and of the distributors before i
pub sheet_most : (n : ℕ) (readings : List ℕ) → length (sheet_bytes n readings) ≤ n * most_distributor_bytes
unfolding sheet_bytes
sheet_most n readings =
    join_most (λ i. distributor_bytes (readings_of readings i)) n most_distributor_bytes
    (λ i. distributor_most (readings_of readings i))

pub sheet_step : (i : ℕ) (readings : List ℕ) →
    sheet_bytes (i + 1) readings ≡ sheet_bytes i readings ++ distributor_bytes (readings_of readings i)
unfolding sheet_bytes
sheet_step i readings = join_step (λ j. distributor_bytes (readings_of readings j)) i

-- what is used and what is left, of a call that is accepted or refused
module _ (n : ℕ) (readings buffer : List ℕ) where
  pub lengths_due : verdict_of (write_checks n readings buffer) ≡ Ok tt → Writable n readings buffer
  unfolding write_checks write_lengths FirstPass
  lengths_due h =
      let checks = all_passed (write_checks n readings buffer) h in
      let lengths = passed_test WrongLength _ checks.1.0 in
      let first = eqb (length readings) (n * distributor_readings) in
      let second = leb (n * most_distributor_bytes) (length buffer) in
      record {
        few = between_high 1 most_distributors n (passed_test WrongCount _ checks.0);
        read = eqb-true _ _ (and_left first second lengths);
        room = leb-true _ _ (and_right first second lengths);
      }

  by_verdict : {A : Type 0} (P : A → Type 0) (given kept : A) → (Writable n readings buffer → P given) → P kept →
      P (cond (is_passed (write_verdict n readings buffer)) given kept)
  unfolding write_verdict
  by_verdict P given kept p q = go (verdict_of (write_checks n readings buffer)) refl
    where
      go : (v : Verdict) → verdict_of (write_checks n readings buffer) ≡ v → P (cond (is_passed v) given kept)
      go (Ok _) e = p (lengths_due e)
      go (Err refusal) e = q

  -- what is used of a buffer by a call that is accepted
  module _ (h : write_verdict n readings buffer ≡ Ok tt) where
    pub writable : Writable n readings buffer
    unfolding write_verdict
    writable = lengths_due h

    pub used_few : length (sheet_bytes n readings) ≤ 5280
    used_few = omega (arith, sheet_most n readings, writable.few)

    pub used_within : length (sheet_bytes n readings) ≤ length buffer
    used_within = omega (arith, sheet_most n readings, writable.room)

  pub buffer_length : length (written_buffer n readings buffer) ≡ length buffer
  unfolding written_buffer written_first
  buffer_length =
      by_verdict (λ left. length left ≡ length buffer) (written_first (sheet_bytes n readings) buffer) buffer
      (λ w. front_long (sheet_bytes n readings) buffer refl (omega (arith, sheet_most n readings, w.room))) refl

  -- each check has the number of its refusal
  pub write_told : AllTold (write_checks n readings buffer)
  unfolding write_checks AllTold
  write_told = (
    check_told 1 (between 1 most_distributors n) WrongCount refl,
    (
      check_told 3 (write_lengths n readings buffer) WrongLength refl,
      (check_told 12 (all_between 0 most_reading readings) WrongReading refl, tt),
    ),
  )

  -- the verdict, check by check, and the promise
  pub count_refused : between 1 most_distributors n ≡ false → write_verdict n readings buffer ≡ Err WrongCount
  unfolding write_verdict write_checks verdict_of
  count_refused h = rw h

  pub length_refused : between 1 most_distributors n ≡ true → write_lengths n readings buffer ≡ false →
      write_verdict n readings buffer ≡ Err WrongLength
  unfolding write_verdict write_checks verdict_of
  length_refused h l = rw (h, l)

  pub reading_refused : between 1 most_distributors n ≡ true → write_lengths n readings buffer ≡ true →
      all_between 0 most_reading readings ≡ false → write_verdict n readings buffer ≡ Err WrongReading
  unfolding write_verdict write_checks verdict_of
  reading_refused h l r = rw (h, l, r)

  pub write_passes : between 1 most_distributors n ≡ true → write_lengths n readings buffer ≡ true →
      all_between 0 most_reading readings ≡ true → write_verdict n readings buffer ≡ Ok tt
  unfolding write_verdict write_checks verdict_of
  write_passes h l r = rw (h, l, r)

  pub write_refused : (refusal : Refusal) → write_verdict n readings buffer ≡ Err refusal →
      WritePromise n readings buffer (Err refusal) buffer
  unfolding write_verdict written_buffer
  write_refused refusal h =
      record {
        judged = answers_by _ (write_checks n readings buffer) _ write_told (Err refusal) (rw h);
        listed = rw h;
      }

  pub write_accepted : (used : ℕ) (left : List ℕ) → write_verdict n readings buffer ≡ Ok tt →
      FirstWritten (sheet_bytes n readings) buffer used left → WritePromise n readings buffer (Ok used) left
  unfolding write_verdict written_buffer
  write_accepted used left h w =
      record {
        judged = answers_by _ (write_checks n readings buffer) _ write_told (Ok used) (rw h (ap Ok w.sized));
        listed = rw h w.listed;
      }

  -- and what an accepted answer says
  module _ (used : ℕ) (left : List ℕ) (promise : WritePromise n readings buffer (Ok used) left) where
    pub written_passed : (write_verdict n readings buffer ≡ Ok tt) × (used ≡ length (sheet_bytes n readings))
    unfolding write_verdict
    written_passed = answer_passed _ used _ (sym promise.judged.answered)

    pub written_within : used ≤ length left
    written_within =
        omega (arith, written_passed, used_within written_passed.0, ap length promise.listed, buffer_length)
