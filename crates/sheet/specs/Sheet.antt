-- The month sheet (W-209 of document 02): "For each distributor in turn: a bit map of 4 bytes, low byte first, bit
-- 4 × sector + kind in 01's order, the lowest bit being sector 0, billed AT. After it stand only the readings whose bit
-- is set, 4 bytes each, low byte first, in bit order. Absent readings are zero." The readings of a distributor stand in
-- that order too, so reading b has bit b. Assumes nothing.
use Rattle.std.specs.Prelude.{cond, List, [], ◌∷◌, ◌++◌, ℕ, zero, suc, ◌+◌, ◌*◌, ◌/◌, ◌%◌, ◌^◌, eqb, leb, ltb, length}
use Rattle.std.specs.Prelude.{get_or, take, drop}
use Rattle.numbers.specs.Bounded.{sum_below, list_below, join_below}
use Rattle.numbers.specs.Checks.{Check, check}
use Rattle.numbers.specs.Sizes.{distributor_readings}
use Rattle.numbers.specs.declared.refusal.Refusal.TheVariants.{WrongSheetLength, ZeroReading}
use Rattle.sheet.specs.Number.{number_size, number_bytes, number_at}

-- the readings of distributor i
abbrev pub readings_of : List ℕ → ℕ → List ℕ
readings_of readings i = take distributor_readings (drop (i * distributor_readings) readings)

-- the bit of a reading: "absent readings are zero", and no others
unfoldable pub presence_bit : ℕ → ℕ
presence_bit reading = cond (eqb reading 0) 0 1

-- the bit map of a distributor's readings
unfoldable pub bit_map : List ℕ → ℕ
bit_map readings = sum_below distributor_readings (λ b. presence_bit (get_or readings b 0) * 2 ^ b)

-- the bytes of a reading, where it is present
unfoldable pub reading_bytes : ℕ → List ℕ
reading_bytes reading = cond (eqb reading 0) [] (number_bytes reading)

-- of those of a distributor that are present, in bit order
abbrev pub present_bytes : List ℕ → List ℕ
present_bytes readings = join_below distributor_readings (λ b. reading_bytes (get_or readings b 0))

-- the bytes of a distributor: the map, then the readings
unfoldable pub distributor_bytes : List ℕ → List ℕ
distributor_bytes readings = number_bytes (bit_map readings) ++ present_bytes readings

-- the sheet of the readings of n distributors
unfoldable pub sheet_bytes : ℕ → List ℕ → List ℕ
sheet_bytes n readings = join_below n (λ i. distributor_bytes (readings_of readings i))

-- bit b of a map
unfoldable pub bit_of : ℕ → ℕ → ℕ
bit_of map b = map / 2 ^ b % 2

-- bit b of the map that stands at a place
abbrev pub bit_at : List ℕ → ℕ → ℕ → ℕ
bit_at sheet place b = bit_of (number_at sheet place) b

-- where reading b stands, if it is present, by the place of its distributor's map: after the map and the present
-- readings before it
unfoldable pub reading_place : List ℕ → ℕ → ℕ → ℕ
reading_place sheet place b = place + number_size + sum_below b (bit_at sheet place) * number_size

-- where the map of distributor i stands: after the readings of those before it
unfoldable pub map_place : List ℕ → ℕ → ℕ
map_place sheet zero = 0
map_place sheet (suc i) = reading_place sheet (map_place sheet i) distributor_readings

-- a reading by its bit and its place
unfoldable pub reading_by : ℕ → List ℕ → ℕ → ℕ
reading_by bit sheet place = cond (eqb bit 1) (number_at sheet place) 0

-- reading b by the place of its distributor's map
unfoldable pub reading_at : List ℕ → ℕ → ℕ → ℕ
reading_at sheet place b = reading_by (bit_at sheet place b) sheet (reading_place sheet place b)

-- the readings of n distributors on a sheet
unfoldable pub sheet_readings : ℕ → List ℕ → List ℕ
sheet_readings n sheet = join_below n (λ i. list_below distributor_readings (reading_at sheet (map_place sheet i)))

-- "17 when the sheet ends early": before the last byte of a number that stands at a place
unfoldable pub whole_check : List ℕ → ℕ → Check
whole_check sheet place = check 17 (leb (place + number_size) (length sheet)) WrongSheetLength

-- the checks of a reading by its bit and its place; "18 when a present reading is zero"
unfoldable pub reading_checks : ℕ → List ℕ → ℕ → List Check
reading_checks bit sheet place =
    cond (eqb bit 1) (whole_check sheet place ∷ check 18 (ltb 0 (number_at sheet place)) ZeroReading ∷ []) []

-- of the distributor whose map stands at a place
unfoldable pub distributor_checks : List ℕ → ℕ → List Check
distributor_checks sheet place =
    whole_check sheet place
    ∷ join_below distributor_readings (λ b. reading_checks (bit_at sheet place b) sheet (reading_place sheet place b))

-- of the sheet of n distributors, "the earlier place first"; at last "17 when the sheet .. has bytes left"
unfoldable pub sheet_checks : ℕ → List ℕ → List Check
sheet_checks n sheet =
    join_below n (λ i. distributor_checks sheet (map_place sheet i))
    ++ check 17 (leb (length sheet) (map_place sheet n)) WrongSheetLength ∷ []
