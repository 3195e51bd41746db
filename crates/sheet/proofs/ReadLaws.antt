-- Laws of reading a sheet: a reading's checks case by case, the place that a verdict gives, and the verdict of the open
-- call. Assumes nothing.
use mathlib.Core.Path.{◌≡◌, refl, sym, ◌∙◌, ap, ap₂}
use mathlib.Core.Bool.{Bool, true, false, cond}
use mathlib.Core.List.{List, [], ◌∷◌}
use Prim.Native.Nat.{ℕ, zero, suc, ◌+◌, ◌*◌, ◌/◌, ◌%◌, ◌≤◌, ◌<◌}
use native.Mathlib.Omega.{arith}
use lib.Dec.{eqb, leb, ltb}
use lib.ListN.{length}
use borrow.Author.Tests.{le-leb, lt-leb, lt-ltb, eq-eqb, ne_eqb}
use Rattle.numbers.specs.Bounded.{join_below}
use Rattle.numbers.specs.Checks.{check, verdict_of}
use Rattle.numbers.specs.Sizes.{most_distributors, distributor_readings}
use Rattle.numbers.specs.Units.{between}
use Rattle.numbers.specs.declared.refusal.Refusal.{Refusal}
use Rattle.numbers.specs.declared.refusal.Refusal.TheVariants.{WrongCount, WrongLength, WrongSheetLength, ZeroReading}
use Rattle.numbers.specs.Refusal.{answer_by}
use Rattle.std.specs.Prelude.{Result, Ok, Err}
use Rattle.numbers.proofs.CheckLaws.{AllTold, check_told, judged}
use Rattle.numbers.proofs.JoinLaws.{verdict_after, refused_before, told_both, told_join}
use Rattle.numbers.proofs.JoinLaws.{join_none, join_more, join_refused, join_passed, first_passed}
use Rattle.sheet.specs.Number.{number_size, number_at}
use Rattle.sheet.specs.Sheet.{bit_at, reading_place, map_place, whole_check, reading_checks, distributor_checks}
use Rattle.sheet.specs.Sheet.{sheet_readings, sheet_checks}
use Rattle.sheet.specs.Read.{read_checks, read_list, ReadPromise}
use Rattle.numbers.proofs.CheckLaws.{answer_passed, answer_refused}
use Rattle.sheet.proofs.PlaceLaws.{Walked, walked_none, walked_bit, walked_more, reading_within, own_checks}
use Rattle.sheet.proofs.PlaceLaws.{each_checks, places_within, next_map}

-- a reading: absent, cut off, zero, and neither
module _ (sheet : List ℕ) (place : ℕ) where
  pub absent_passes : verdict_of (reading_checks 0 sheet place) ≡ Ok tt
  unfolding reading_checks verdict_of
  absent_passes = refl

  pub short_refused : length sheet < place + number_size →
      verdict_of (reading_checks 1 sheet place) ≡ Err WrongSheetLength
  unfolding reading_checks whole_check verdict_of
  short_refused p = rw (lt-leb (place + number_size) (length sheet) p)

  module _ (whole : place + number_size ≤ length sheet) where
    pub zero_refused : number_at sheet place ≡ 0 → verdict_of (reading_checks 1 sheet place) ≡ Err ZeroReading
    unfolding reading_checks whole_check verdict_of
    zero_refused e = rw (le-leb (place + number_size) (length sheet) whole, e)

    pub present_passes : 0 < number_at sheet place → verdict_of (reading_checks 1 sheet place) ≡ Ok tt
    unfolding reading_checks whole_check verdict_of
    present_passes p =
        rw (le-leb (place + number_size) (length sheet) whole, lt-ltb 0 (number_at sheet place) p)

  -- a distributor: its map cut off, and else by its readings
  pub map_refused : length sheet < place + number_size →
      verdict_of (distributor_checks sheet place) ≡ Err WrongSheetLength
  unfolding distributor_checks whole_check verdict_of
  map_refused p = rw (lt-leb (place + number_size) (length sheet) p)

  pub map_passes : place + number_size ≤ length sheet →
      verdict_of (distributor_checks sheet place)
      ≡ verdict_of (join_below distributor_readings (own_checks sheet place))
  unfolding distributor_checks whole_check verdict_of
  map_passes p = rw (le-leb (place + number_size) (length sheet) p)

-- the loop over a distributor's readings: the walk comes to reading b, whose place lies within the sheet, and the
-- checks before it pass
pub record Checked (sheet : List ℕ) (place bits at b : ℕ) : Type 0 where
  pub walked : Walked sheet place bits at b
  pub within : at ≤ length sheet
  pub passed : verdict_of (join_below b (own_checks sheet place)) ≡ Ok tt

module _ (sheet : List ℕ) (place : ℕ) (whole : place + number_size ≤ length sheet) where
  pub checked_none : (bits : ℕ) → bits ≡ number_at sheet place → Checked sheet place bits (place + number_size) 0
  checked_none bits e =
      record {
        walked = walked_none sheet place bits (place + number_size) e refl;
        within = whole;
        passed = join_none (own_checks sheet place);
      }

  module _ {bits at b : ℕ} (h : Checked sheet place bits at b) where
    -- what its checks answer of the next place
    abbrev own_answer : Result ℕ Refusal
    own_answer = answer_by (verdict_of (reading_checks (bits % 2) sheet at)) (at + bits % 2 * number_size)

    own_check : reading_checks (bits % 2) sheet at ≡ own_checks sheet place b
    own_check = ap₂ (λ bit a. reading_checks bit sheet a) (walked_bit sheet place h.walked) h.walked.stands

    pub checked_more : (next : ℕ) → Ok next ≡ own_answer → Checked sheet place (bits / 2) next (b + 1)
    checked_more next e =
        let w = answer_passed _ next _ (sym e) in
        record {
          walked = walked_more sheet place h.walked next w.1;
          within = rw w.1 (reading_within (bits % 2) sheet at (omega arith) h.within w.0);
          passed = join_more (own_checks sheet place) b h.passed (ap verdict_of (sym own_check) ∙ w.0);
        }

    -- what all checks answer of the place after the readings
    pub checked_wrong : (refusal : Refusal) → Err refusal ≡ own_answer → b < distributor_readings →
        Err refusal ≡ answer_by (verdict_of (distributor_checks sheet place))
        (reading_place sheet place distributor_readings)
    checked_wrong refusal e p =
        rw (
          map_passes sheet place whole,
          join_refused (own_checks sheet place) b distributor_readings refusal p h.passed
              (ap verdict_of (sym own_check) ∙ answer_refused _ refusal _ (sym e)),
        ) refl

    pub checked_all : b ≡ distributor_readings →
        Ok at ≡ answer_by (verdict_of (distributor_checks sheet place))
        (reading_place sheet place distributor_readings)
    checked_all e =
        let passed : verdict_of (join_below distributor_readings (own_checks sheet place)) ≡ Ok tt = rw e at h.passed in
        rw (map_passes sheet place whole, passed) (ap Ok (h.walked.stands ∙ ap (reading_place sheet place) e))

-- a sheet: a distributor's refusal, bytes left, and neither
module _ (n : ℕ) (sheet : List ℕ) where
  pub sheet_refused : (refusal : Refusal) → verdict_of (join_below n (each_checks sheet)) ≡ Err refusal →
      verdict_of (sheet_checks n sheet) ≡ Err refusal
  unfolding sheet_checks
  sheet_refused refusal h = refused_before (join_below n (each_checks sheet)) _ refusal h

  module _ (h : verdict_of (join_below n (each_checks sheet)) ≡ Ok tt) where
    pub left_refused : map_place sheet n < length sheet → verdict_of (sheet_checks n sheet) ≡ Err WrongSheetLength
    unfolding sheet_checks verdict_of
    left_refused p =
        verdict_after (join_below n (each_checks sheet)) _ h ∙ rw (lt-leb (length sheet) (map_place sheet n) p) refl

    pub sheet_passes : length sheet ≤ map_place sheet n → verdict_of (sheet_checks n sheet) ≡ Ok tt
    unfolding sheet_checks verdict_of
    sheet_passes p =
        verdict_after (join_below n (each_checks sheet)) _ h ∙ rw (le-leb (length sheet) (map_place sheet n) p) refl

-- the loop over the distributors: the map of distributor i stands within the sheet, and the checks before it pass
pub record SheetChecked (sheet : List ℕ) (at i : ℕ) : Type 0 where
  pub stands : at ≡ map_place sheet i
  pub within : at ≤ length sheet
  pub passed : verdict_of (join_below i (each_checks sheet)) ≡ Ok tt

pub sheet_none : (sheet : List ℕ) → SheetChecked sheet 0 0
unfolding map_place
sheet_none sheet = record { stands = refl; within = omega arith; passed = join_none (each_checks sheet) }

module _ {sheet : List ℕ} {at i : ℕ} (h : SheetChecked sheet at i) where
  -- what its checks answer of the place after its readings
  abbrev each_answer : Result ℕ Refusal
  each_answer =
      answer_by (verdict_of (distributor_checks sheet at)) (reading_place sheet at distributor_readings)

  each_check : verdict_of (each_checks sheet i) ≡ verdict_of (distributor_checks sheet at)
  each_check = ap (λ a. verdict_of (distributor_checks sheet a)) (sym h.stands)

  pub sheet_more : (next : ℕ) → Ok next ≡ each_answer → SheetChecked sheet next (i + 1)
  sheet_more next e =
      let w = answer_passed _ next _ (sym e) in
      record {
        stands = w.1 ∙ ap (λ a. reading_place sheet a distributor_readings) h.stands ∙ sym (next_map sheet i);
        within = rw w.1 (places_within sheet at w.0 distributor_readings (omega arith));
        passed = join_more (each_checks sheet) i h.passed (each_check ∙ w.0);
      }

  pub sheet_wrong : (n : ℕ) (refusal : Refusal) → Err refusal ≡ each_answer → i < n →
      Err refusal ≡ verdict_of (sheet_checks n sheet)
  sheet_wrong n refusal e p =
      sym (sheet_refused n sheet refusal
      (join_refused (each_checks sheet) i n refusal p h.passed (each_check ∙ answer_refused _ refusal _ (sym e))))

-- all distributors passed
pub sheet_left : (n : ℕ) (sheet : List ℕ) (at : ℕ) → SheetChecked sheet at n → at < length sheet →
    Err WrongSheetLength ≡ verdict_of (sheet_checks n sheet)
sheet_left n sheet at h p = sym (left_refused n sheet h.passed (omega (arith, h.stands)))

pub sheet_all : (n : ℕ) (sheet : List ℕ) (at : ℕ) → SheetChecked sheet at n → length sheet ≤ at →
    Ok tt ≡ verdict_of (sheet_checks n sheet)
sheet_all n sheet at h p = sym (sheet_passes n sheet h.passed (omega (arith, h.stands)))

-- each check has the number of its refusal
reading_told : (bit : ℕ) (sheet : List ℕ) (place : ℕ) → AllTold (reading_checks bit sheet place)
unfolding reading_checks whole_check AllTold
reading_told bit sheet place = go (eqb bit 1)
  where
    go : (b : Bool) →
        AllTold (cond b (whole_check sheet place ∷ check 18 (ltb 0 (number_at sheet place)) ZeroReading ∷ []) [])
    go true = (
      check_told 17 (leb (place + number_size) (length sheet)) WrongSheetLength refl,
      (check_told 18 (ltb 0 (number_at sheet place)) ZeroReading refl, tt),
    )
    go false = tt

distributor_told : (sheet : List ℕ) (place : ℕ) → AllTold (distributor_checks sheet place)
unfolding distributor_checks whole_check AllTold
distributor_told sheet place = (
  check_told 17 (leb (place + number_size) (length sheet)) WrongSheetLength refl,
  told_join (own_checks sheet place) distributor_readings
      (λ b. reading_told (bit_at sheet place b) sheet (reading_place sheet place b)),
)

sheet_told : (n : ℕ) (sheet : List ℕ) → AllTold (sheet_checks n sheet)
unfolding sheet_checks AllTold
sheet_told n sheet =
    told_both (join_below n (each_checks sheet)) _
    (told_join (each_checks sheet) n (λ i. distributor_told sheet (map_place sheet i)))
    (check_told 17 (leb (length sheet) (map_place sheet n)) WrongSheetLength refl, tt)

pub read_told : (n : ℕ) (sheet lent : List ℕ) → AllTold (read_checks n sheet lent)
unfolding read_checks AllTold
read_told n sheet lent = (
  check_told 1 (between 1 most_distributors n) WrongCount refl,
  (check_told 3 (eqb (length lent) (n * distributor_readings)) WrongLength refl, sheet_told n sheet),
)

-- where all checks pass the last map's end lies within the sheet
pub maps_within : (n : ℕ) (sheet : List ℕ) → verdict_of (sheet_checks n sheet) ≡ Ok tt →
    map_place sheet n ≤ length sheet
unfolding sheet_checks map_place
maps_within zero sheet h = omega arith
maps_within (suc i) sheet h =
    places_within sheet (map_place sheet i)
    (join_passed (each_checks sheet) (suc i) (first_passed (join_below (suc i) (each_checks sheet)) _ h) i
    (omega arith))
    distributor_readings (omega arith)

-- the open call: its verdict, check by check, and its promise
module _ (n : ℕ) (sheet lent : List ℕ) where
  pub count_refused : between 1 most_distributors n ≡ false → verdict_of (read_checks n sheet lent) ≡ Err WrongCount
  unfolding read_checks verdict_of
  count_refused h = rw h

  module _ (h : between 1 most_distributors n ≡ true) where
    pub length_refused : (length lent ≡ n * distributor_readings → ⊥) →
        verdict_of (read_checks n sheet lent) ≡ Err WrongLength
    unfolding read_checks verdict_of
    length_refused e = rw (h, ne_eqb (length lent) (n * distributor_readings) e)

    pub read_due : length lent ≡ n * distributor_readings →
        verdict_of (read_checks n sheet lent) ≡ verdict_of (sheet_checks n sheet)
    unfolding read_checks verdict_of
    read_due e = rw (h, eq-eqb (length lent) (n * distributor_readings) e)

  pub read_refused : (refusal : Refusal) → verdict_of (read_checks n sheet lent) ≡ Err refusal →
      ReadPromise n sheet lent (Err refusal) lent
  unfolding read_list
  read_refused refusal h =
      record {
        judged = judged (read_checks n sheet lent) (read_told n sheet lent) (Err refusal) (sym h);
        listed = rw h;
      }

  pub read_accepted : (list : List ℕ) → verdict_of (read_checks n sheet lent) ≡ Ok tt → list ≡ sheet_readings n sheet →
      ReadPromise n sheet lent (Ok tt) list
  unfolding read_list
  read_accepted list h e =
      record { judged = judged (read_checks n sheet lent) (read_told n sheet lent) (Ok _) (sym h); listed = rw h e }
