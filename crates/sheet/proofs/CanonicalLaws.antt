-- A sheet of bytes that passes is the sheet of the readings that it is read as. Assumes nothing.
use mathlib.Core.Path.{◌≡◌, refl, sym, ◌∙◌, ap}
use mathlib.Core.List.{List, [], ◌∷◌}
use Prim.Native.Nat.{ℕ, zero, suc, ◌+◌, ◌*◌, ◌^◌, ◌<◌, ◌≤◌}
use native.Mathlib.Omega.{arith}
use native.Mathlib.Nat.{zero-add}
use lib.Dec.{leb}
use lib.ListN.{length, get_or}
use borrow.Author.Tests.{leb-true, ltb-true}
use Rattle.numbers.specs.Bounded.{list_below, join_below}
use Rattle.numbers.specs.Checks.{check, verdict_of}
use Rattle.numbers.specs.Required.{ValuesWithin}
use Rattle.numbers.specs.Sizes.{distributor_readings}
use Rattle.numbers.specs.declared.refusal.Refusal.TheVariants.{WrongSheetLength, ZeroReading}
use Rattle.std.specs.Prelude.{Ok}
use Rattle.numbers.proofs.SumLaws.{sum_same}
use Rattle.numbers.proofs.ListLaws.{list_length, list_at}
use Rattle.numbers.proofs.CheckLaws.{FirstPass, passed_test, all_passed, passed_alone}
use Rattle.numbers.proofs.JoinLaws.{join_same, first_passed, rest_passed, join_passed}
use Rattle.sheet.specs.Number.{number_bytes, number_at}
use Rattle.sheet.specs.Sheet.{readings_of, presence_bit, bit_map, reading_bytes, distributor_bytes, sheet_bytes}
use Rattle.sheet.specs.Sheet.{bit_at, reading_place, map_place, reading_by, reading_at, sheet_readings}
use Rattle.sheet.specs.Sheet.{whole_check, reading_checks, distributor_checks, sheet_checks}
use Rattle.sheet.proofs.StandLaws.{Stands, stands_nothing, stands_at, stands_both, stands_join, stands_all}
use Rattle.sheet.proofs.StandLaws.{part_of_join}
use Rattle.sheet.proofs.NumberLaws.{number_size_lem, number_below, bytes_back}
use Rattle.sheet.proofs.BitLaws.{bits_back}
use Rattle.sheet.proofs.MapLaws.{present_bit, present_bytes_lem, Mapped, reading_place_lem, map_places}
use Rattle.sheet.proofs.PlaceLaws.{bit_most, own_checks, each_checks, readings_passed, map_within}

module _ (sheet : List ℕ) (bytes : ValuesWithin 255 sheet) where
  -- what a reading that passes says: its bit is set where it is not zero, and its bytes stand at its place
  record Passing (bit place : ℕ) : Type 0 where
    pub presence : bit ≡ presence_bit (reading_by bit sheet place)
    pub stands : Stands sheet place (reading_bytes (reading_by bit sheet place))

  reading_passing : (bit place : ℕ) → bit ≤ 1 → verdict_of (reading_checks bit sheet place) ≡ Ok tt →
      Passing bit place
  unfolding reading_checks reading_by presence_bit reading_bytes FirstPass whole_check
  reading_passing zero place p h = record { presence = refl; stands = stands_nothing sheet place }
  reading_passing (suc zero) place p h =
      let checks = all_passed (reading_checks 1 sheet place) h in
      let some : 0 < number_at sheet place = ltb-true 0 _ (passed_test ZeroReading _ checks.1.0) in
      record {
        presence = sym (present_bit (number_at sheet place) some);
        stands =
            rw (present_bytes_lem (number_at sheet place) some)
            (bytes_back sheet bytes place (leb-true _ _ (passed_test WrongSheetLength _ checks.0)));
      }
  reading_passing (suc (suc bit)) place p h = absurd (omega arith)

  -- a distributor that passes
  module _ (place : ℕ) (h : verdict_of (distributor_checks sheet place) ≡ Ok tt) where
    abbrev readings : List ℕ
    readings = list_below distributor_readings (reading_at sheet place)

    passing : (b : ℕ) → b < distributor_readings → Passing (bit_at sheet place b) (reading_place sheet place b)
    unfolding distributor_checks
    passing b p =
        reading_passing (bit_at sheet place b) (reading_place sheet place b) (bit_most (number_at sheet place) b)
        (join_passed (own_checks sheet place) distributor_readings (readings_passed sheet place h) b p)

    reading_is : (b : ℕ) → b < distributor_readings →
        reading_by (bit_at sheet place b) sheet (reading_place sheet place b) ≡ get_or readings b 0
    unfolding reading_at
    reading_is b p = sym (list_at (reading_at sheet place) distributor_readings 0 b p)

    mapped : Mapped sheet place readings
    mapped = record { bit = λ b p. (passing b p).presence ∙ ap presence_bit (reading_is b p) }

    map_back : number_at sheet place ≡ bit_map readings
    unfolding bit_map
    map_back =
        sym (bits_back (number_at sheet place) distributor_readings (number_below sheet bytes place))
        ∙ sum_same distributor_readings _ _ (λ b p. ap (λ bit. bit * 2 ^ b) (mapped.bit b p))

    distributor_back : Stands sheet place (distributor_bytes readings)
    unfolding distributor_bytes distributor_checks
    distributor_back =
        stands_both (number_bytes (bit_map readings)) _
        (rw (← map_back) (bytes_back sheet bytes place (map_within sheet place h)))
        (stands_at (ap (λ size. place + size) (sym (number_size_lem (bit_map readings))))
        (stands_join (λ b. reading_bytes (get_or readings b 0)) distributor_readings
        (λ b p. stands_at (reading_place_lem mapped b (omega arith)) (rw (reading_is b p) at (passing b p).stands))))

  -- a sheet that passes
  module _ (n : ℕ) (h : verdict_of (sheet_checks n sheet) ≡ Ok tt) where
    abbrev readings_at : ℕ → List ℕ
    readings_at i = list_below distributor_readings (reading_at sheet (map_place sheet i))

    abbrev bytes_at : ℕ → List ℕ
    bytes_at i = distributor_bytes (readings_at i)

    distributor_passed : (i : ℕ) → i < n → verdict_of (distributor_checks sheet (map_place sheet i)) ≡ Ok tt
    unfolding sheet_checks
    distributor_passed i p =
        join_passed (each_checks sheet) n (first_passed _ _ h) i p

    nothing_left : length sheet ≤ map_place sheet n
    unfolding sheet_checks
    nothing_left =
        let last = check 17 (leb (length sheet) (map_place sheet n)) WrongSheetLength in
        leb-true (length sheet) (map_place sheet n) (passed_test WrongSheetLength _ (passed_alone last
        (rest_passed (join_below n (each_checks sheet)) (last ∷ []) h)))

    places : (i : ℕ) → i ≤ n → map_place sheet i ≡ length (join_below i bytes_at)
    places = map_places sheet readings_at n (λ i p e. mapped (map_place sheet i) (distributor_passed i p))

    whole_back : sheet ≡ join_below n bytes_at
    whole_back =
        stands_all (stands_join bytes_at n (λ i p. stands_at (places i (omega arith) ∙ sym (zero-add _))
        (distributor_back (map_place sheet i) (distributor_passed i p))))
        (omega (arith, nothing_left, places n (omega arith)))

    pub canonical : sheet ≡ sheet_bytes n (sheet_readings n sheet)
    unfolding sheet_bytes sheet_readings
    canonical =
        whole_back
        ∙ join_same bytes_at (λ i. distributor_bytes (readings_of (join_below n readings_at) i)) n
        (λ i p. ap distributor_bytes (sym (part_of_join readings_at n distributor_readings
        (λ j q. list_length (reading_at sheet (map_place sheet j)) distributor_readings) i p)))
