-- The sheet of readings is read as these readings, and passes. Assumes nothing.
use mathlib.Core.Path.{◌≡◌, refl, sym, ◌∙◌, ap}
use mathlib.Core.List.{List}
use Prim.Native.Nat.{ℕ, zero, suc, ◌+◌, ◌*◌, ◌^◌, ◌<◌, ◌≤◌}
use native.Mathlib.Omega.{arith}
use native.Mathlib.Nat.{zero-add}
use lib.ListN.{length, get_or, drop, length-drop}
use lib.Seq.{length-take-le, get_or-take, get_or-drop, ext_get_or, take_all}
use Rattle.numbers.specs.Bounded.{list_below, join_below}
use Rattle.numbers.specs.Checks.{verdict_of}
use Rattle.numbers.specs.Required.{ValuesWithin}
use Rattle.numbers.specs.Sizes.{distributor_readings, most_reading}
use Rattle.std.specs.Prelude.{Ok}
use Rattle.numbers.proofs.JoinLaws.{join_same, all_join}
use Rattle.numbers.proofs.ListLaws.{list_length, list_at}
use Rattle.sheet.specs.Number.{number_size, number_bytes}
use Rattle.sheet.specs.Sheet.{readings_of, presence_bit, bit_map, reading_bytes, distributor_bytes, sheet_bytes}
use Rattle.sheet.specs.Sheet.{bit_of, reading_place, map_place, reading_by, reading_at, sheet_readings}
use Rattle.sheet.specs.Sheet.{reading_checks, distributor_checks, sheet_checks}
use Rattle.sheet.proofs.StandLaws.{Stands, stands_whole, stands_long, stands_at, stands_first, stands_second}
use Rattle.sheet.proofs.StandLaws.{stands_part, join_of_parts}
use Rattle.sheet.proofs.NumberLaws.{number_size_lem, number_back}
use Rattle.sheet.proofs.MapLaws.{present_bit, present_bytes_lem, map_below, map_bit, Mapped, reading_place_lem}
use Rattle.sheet.proofs.MapLaws.{map_places}
use Rattle.sheet.proofs.PlaceLaws.{own_checks, each_checks}
use Rattle.sheet.proofs.ReadLaws.{absent_passes, present_passes, map_passes, sheet_passes}

-- a number that stands at a place is whole
number_within : (sheet : List ℕ) (place number : ℕ) → Stands sheet place (number_bytes number) →
    place + number_size ≤ length sheet
number_within sheet place number s =
    omega (arith, stands_long s (omega (arith, number_size_lem number)), number_size_lem number)

-- a reading whose bytes stand at a place
reading_back : (sheet : List ℕ) (place reading : ℕ) → reading < 2 ^ 32 → Stands sheet place (reading_bytes reading) →
    reading_by (presence_bit reading) sheet place ≡ reading
unfolding presence_bit reading_by
reading_back sheet place zero p s = refl
reading_back sheet place (suc reading) p s =
    let some : 0 < suc reading = omega arith in
    ap (λ bit. reading_by bit sheet place) (present_bit (suc reading) some)
    ∙ number_back sheet place (suc reading) p (rw (present_bytes_lem (suc reading) some) at s)

reading_passes : (sheet : List ℕ) (place reading : ℕ) → reading < 2 ^ 32 →
    Stands sheet place (reading_bytes reading) →
    verdict_of (reading_checks (presence_bit reading) sheet place) ≡ Ok tt
unfolding presence_bit
reading_passes sheet place zero p s = absent_passes sheet place
reading_passes sheet place (suc reading) p s =
    let some : 0 < suc reading = omega arith in
    let stands = rw (present_bytes_lem (suc reading) some) at s in
    ap (λ bit. verdict_of (reading_checks bit sheet place)) (present_bit (suc reading) some)
    ∙ present_passes sheet place (number_within sheet place (suc reading) stands)
    (omega (arith, number_back sheet place (suc reading) p stands))

-- a distributor's readings whose bytes stand at a place
module _ (sheet : List ℕ) (place : ℕ) (readings : List ℕ) (s : Stands sheet place (distributor_bytes readings)) where
  map_stands : Stands sheet place (number_bytes (bit_map readings))
  unfolding distributor_bytes
  map_stands = stands_first (number_bytes (bit_map readings)) _ s

  mapped : Mapped sheet place readings
  mapped =
      record {
        bit = λ b p.
            ap (λ map. bit_of map b) (number_back sheet place (bit_map readings) (map_below readings) map_stands)
            ∙ map_bit readings b p;
      }

  reading_stands : (b : ℕ) → b < distributor_readings →
      Stands sheet (reading_place sheet place b) (reading_bytes (get_or readings b 0))
  unfolding distributor_bytes
  reading_stands b p =
      stands_at (sym (reading_place_lem mapped b (omega arith))) (stands_part (λ j. reading_bytes (get_or readings j 0))
      distributor_readings (stands_at (ap (λ size. place + size) (number_size_lem (bit_map readings)))
      (stands_second (number_bytes (bit_map readings)) _ s)) b p)

  module _ (small : (b : ℕ) → b < distributor_readings → get_or readings b 0 < 2 ^ 32) where
    reading_read : (b : ℕ) → b < distributor_readings → reading_at sheet place b ≡ get_or readings b 0
    unfolding reading_at
    reading_read b p =
        ap (λ bit. reading_by bit sheet (reading_place sheet place b)) (mapped.bit b p)
        ∙ reading_back sheet (reading_place sheet place b) (get_or readings b 0) (small b p) (reading_stands b p)

    distributor_read : length readings ≡ distributor_readings →
        list_below distributor_readings (reading_at sheet place) ≡ readings
    distributor_read e =
        let long = list_length (reading_at sheet place) distributor_readings in
        ext_get_or 0 _ _ (long ∙ sym e)
        (λ b p. let q : b < distributor_readings = omega (arith, long) in
        list_at (reading_at sheet place) distributor_readings 0 b q ∙ reading_read b q)

    distributor_passes : verdict_of (distributor_checks sheet place) ≡ Ok tt
    distributor_passes =
        map_passes sheet place (number_within sheet place (bit_map readings) map_stands)
        ∙ all_join (own_checks sheet place) distributor_readings
        (λ b p. ap (λ bit. verdict_of (reading_checks bit sheet (reading_place sheet place b))) (mapped.bit b p)
        ∙ reading_passes sheet (reading_place sheet place b) (get_or readings b 0) (small b p) (reading_stands b p))

-- the sheet of the readings of n distributors
module _ (n : ℕ) (readings : List ℕ) where
  abbrev sheet : List ℕ
  sheet = sheet_bytes n readings

  abbrev bytes_of : ℕ → List ℕ
  bytes_of i = distributor_bytes (readings_of readings i)

  stands_after : (i : ℕ) → i < n → map_place sheet i ≡ length (join_below i bytes_of) →
      Stands sheet (map_place sheet i) (bytes_of i)
  unfolding sheet_bytes
  stands_after i p e =
      stands_at (zero-add (length (join_below i bytes_of)) ∙ sym e)
      (stands_part bytes_of n (stands_whole (join_below n bytes_of)) i p)

  written_places : (i : ℕ) → i ≤ n → map_place sheet i ≡ length (join_below i bytes_of)
  written_places =
      map_places sheet (readings_of readings) n
      (λ i p e. mapped sheet (map_place sheet i) (readings_of readings i) (stands_after i p e))

  stands_here : (i : ℕ) → i < n → Stands sheet (map_place sheet i) (bytes_of i)
  stands_here i p = stands_after i p (written_places i (omega arith))

  module _ (within : ValuesWithin most_reading readings) where
    part_small : (i b : ℕ) → b < distributor_readings → get_or (readings_of readings i) b 0 < 2 ^ 32
    part_small i b p =
        let at : get_or (readings_of readings i) b 0 ≡ get_or readings (i * distributor_readings + b) 0 =
        get_or-take distributor_readings (drop (i * distributor_readings) readings) b 0 p
        ∙ get_or-drop (i * distributor_readings) readings b 0 in
        omega (arith, at, within.most (i * distributor_readings + b))

    pub written_passes : verdict_of (sheet_checks n sheet) ≡ Ok tt
    unfolding sheet_bytes
    written_passes =
        sheet_passes n sheet
        (all_join (each_checks sheet) n
        (λ i p. distributor_passes sheet (map_place sheet i) (readings_of readings i) (stands_here i p) (part_small i)))
        (omega (arith, written_places n (omega arith)))

    pub written_read : length readings ≡ n * distributor_readings → sheet_readings n sheet ≡ readings
    unfolding sheet_readings
    written_read e =
        join_same (λ i. list_below distributor_readings (reading_at sheet (map_place sheet i))) (readings_of readings) n
        (λ i p. distributor_read sheet (map_place sheet i) (readings_of readings i) (stands_here i p) (part_small i)
        (length-take-le distributor_readings (drop (i * distributor_readings) readings)
        (omega (arith, length-drop (i * distributor_readings) readings))))
        ∙ join_of_parts readings n distributor_readings
        ∙ take_all (n * distributor_readings) readings (omega arith)
