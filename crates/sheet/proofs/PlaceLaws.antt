-- Laws of the places on a sheet: they go up, a walk over a map's bits comes to each, and where the checks pass each
-- lies within the sheet. Assumes nothing.
use mathlib.Core.Path.{◌≡◌, ◌∙◌, ap}
use mathlib.Core.List.{List, [], ◌∷◌}
use Rattle.std.specs.Prelude.{None, Ok}
use Prim.Native.Nat.{ℕ, zero, suc, ◌+◌, ◌-◌, ◌*◌, ◌/◌, ◌%◌, ◌^◌, ◌≤◌}
use native.Mathlib.Numerals.{add-one}
use native.Mathlib.Nat.{pow-suc, div-div-eq-div-mul, zero-add, suc-add}
use native.Mathlib.Omega.{arith}
use lib.Dec.{leb}
use lib.ListN.{length}
use borrow.Author.Tests.{leb-true}
use Rattle.numbers.specs.Bounded.{sum_below, join_below}
use Rattle.numbers.specs.Checks.{Check, verdict_of}
use Rattle.numbers.specs.Sizes.{distributor_readings}
use Rattle.numbers.specs.declared.refusal.Refusal.TheVariants.{WrongSheetLength}
use Rattle.numbers.proofs.CheckLaws.{FirstPass, passed_test, all_passed}
use Rattle.numbers.proofs.JoinLaws.{rest_passed, join_passed}
use Rattle.numbers.proofs.SumLaws.{sum_step, sum_mono}
use Rattle.sheet.specs.Number.{number_size, number_at}
use Rattle.sheet.specs.Sheet.{bit_of, bit_at, reading_place, map_place, whole_check, reading_checks, distributor_checks}

pub bit_most : (map b : ℕ) → bit_of map b ≤ 1
unfolding bit_of
bit_most map b = omega arith

module _ (sheet : List ℕ) (place : ℕ) where
  -- the first reading stands after the map, and each further one after the one before, where that is present
  pub first_place : reading_place sheet place 0 ≡ place + number_size
  unfolding reading_place sum_below
  first_place = omega arith

  pub next_place : (b : ℕ) → reading_place sheet place (b + 1) ≡ reading_place sheet place b
      + bit_at sheet place b * number_size
  unfolding reading_place
  next_place b = omega (arith, sum_step b (bit_at sheet place))

  pub places_rise : (b c : ℕ) → b ≤ c → reading_place sheet place b ≤ reading_place sheet place c
  unfolding reading_place
  places_rise b c p = omega (arith, sum_mono b c (bit_at sheet place) p)

  -- a walk over the bits of the map that stands at the place: what holds where it comes to bit b
  pub record Walked (bits at b : ℕ) : Type 0 where
    pub rest : bits ≡ number_at sheet place / 2 ^ b
    pub stands : at ≡ reading_place sheet place b

  pub walked_none : (bits at : ℕ) → bits ≡ number_at sheet place → at ≡ place + number_size → Walked bits at 0
  walked_none bits at e p = record { rest = omega arith; stands = omega (arith, first_place) }

  module _ {bits at b : ℕ} (w : Walked bits at b) where
    pub walked_bit : bits % 2 ≡ bit_at sheet place b
    unfolding bit_of
    walked_bit = ap (λ m. m % 2) w.rest

    pub walked_next : at + bits % 2 * number_size ≡ reading_place sheet place (b + 1)
    walked_next = omega (arith, w.stands, walked_bit, next_place b)

    pub walked_more : (next : ℕ) → next ≡ at + bits % 2 * number_size → Walked (bits / 2) next (b + 1)
    walked_more next e =
        record {
          rest = rw (w.rest, add-one, pow-suc) (div-div-eq-div-mul (number_at sheet place) (2 ^ b) 2);
          stands = e ∙ walked_next;
        }

-- the map of the next distributor
pub next_map : (sheet : List ℕ) (i : ℕ) →
    map_place sheet (i + 1) ≡ reading_place sheet (map_place sheet i) distributor_readings
unfolding map_place
next_map sheet i = rw add-one

map_up : (sheet : List ℕ) (i m : ℕ) → map_place sheet i ≤ map_place sheet (m + i)
unfolding map_place
map_up sheet i zero = rw zero-add (omega arith)
map_up sheet i (suc m) =
    rw suc-add
    (omega (
      arith,
      map_up sheet i m,
      places_rise sheet (map_place sheet (m + i)) 0 distributor_readings (omega arith),
      first_place sheet (map_place sheet (m + i)),
    ))

pub maps_rise : (sheet : List ℕ) (i n : ℕ) → i ≤ n → map_place sheet i ≤ map_place sheet n
maps_rise sheet i n p =
    let e : n - i + i ≡ n = omega arith in
    rw e at (map_up sheet i (n - i))

-- a number that stands whole in the sheet
pub whole_within : (sheet : List ℕ) (place : ℕ) → (whole_check sheet place).met ≡ None →
    place + number_size ≤ length sheet
unfolding whole_check
whole_within sheet place h =
    leb-true (place + number_size) (length sheet)
    (passed_test WrongSheetLength (leb (place + number_size) (length sheet)) h)

-- a reading whose checks pass
pub reading_within : (bit : ℕ) (sheet : List ℕ) (place : ℕ) → bit ≤ 1 → place ≤ length sheet →
    verdict_of (reading_checks bit sheet place) ≡ Ok tt → place + bit * number_size ≤ length sheet
unfolding reading_checks FirstPass
reading_within zero sheet place p q h = omega (arith, q)
reading_within (suc zero) sheet place p q h = omega (arith, whole_within sheet place (all_passed _ h).0)
reading_within (suc (suc more)) sheet place p q h = absurd (omega arith)

-- the checks of the readings of a distributor
abbrev pub own_checks : List ℕ → ℕ → ℕ → List Check
own_checks sheet place b = reading_checks (bit_at sheet place b) sheet (reading_place sheet place b)

-- and of a distributor, by its number
abbrev pub each_checks : List ℕ → ℕ → List Check
each_checks sheet i = distributor_checks sheet (map_place sheet i)

-- a distributor whose checks pass
module _ (sheet : List ℕ) (place : ℕ) (h : verdict_of (distributor_checks sheet place) ≡ Ok tt) where
  pub readings_passed : verdict_of (join_below distributor_readings (own_checks sheet place)) ≡ Ok tt
  unfolding distributor_checks
  readings_passed =
      rest_passed (whole_check sheet place ∷ []) (join_below distributor_readings (own_checks sheet place)) h

  pub map_within : place + number_size ≤ length sheet
  unfolding distributor_checks FirstPass
  map_within = whole_within sheet place (all_passed _ h).0

  pub places_within : (b : ℕ) → b ≤ distributor_readings → reading_place sheet place b ≤ length sheet
  places_within zero p = omega (arith, map_within, first_place sheet place)
  places_within (suc b) p =
      let ih : reading_place sheet place b ≤ length sheet = places_within b (omega arith) in
      rw (← add-one b, next_place sheet place b)
      (reading_within (bit_at sheet place b) sheet (reading_place sheet place b) (bit_most (number_at sheet place) b) ih
      (join_passed (own_checks sheet place) distributor_readings readings_passed b (omega arith)))
