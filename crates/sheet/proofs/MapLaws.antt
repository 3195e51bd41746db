-- The bits and the size of a distributor's readings, and from the bits that a sheet has for them where the readings and
-- the maps stand. Assumes nothing.
use mathlib.Core.Path.{◌≡◌, refl, sym, ◌∙◌, ap}
use mathlib.Core.List.{List}
use Prim.Native.Nat.{ℕ, zero, suc, ◌+◌, ◌*◌, ◌^◌, ◌<◌, ◌≤◌}
use native.Mathlib.Omega.{arith}
use lib.ListN.{length, get_or, length-append}
use borrow.Author.Tests.{ne_eqb}
use Rattle.numbers.specs.Bounded.{sum_below, join_below}
use Rattle.numbers.specs.Sizes.{distributor_readings}
use Rattle.sheet.specs.Number.{number_size, number_bytes}
use Rattle.sheet.specs.Sheet.{presence_bit, bit_map, reading_bytes, distributor_bytes, bit_of, bit_at, reading_place}
use Rattle.sheet.specs.Sheet.{map_place}
use Rattle.sheet.proofs.NumberLaws.{number_size_lem}
use Rattle.sheet.proofs.BitLaws.{bits_below, bit_of_bits}

-- a reading that is present
module _ (reading : ℕ) (p : 0 < reading) where
  pub present_bit : presence_bit reading ≡ 1
  unfolding presence_bit
  present_bit = rw (ne_eqb reading 0 (λ e. omega arith))

  pub present_bytes_lem : reading_bytes reading ≡ number_bytes reading
  unfolding reading_bytes
  present_bytes_lem = rw (ne_eqb reading 0 (λ e. omega arith))

pub presence_most : (reading : ℕ) → presence_bit reading ≤ 1
unfolding presence_bit
presence_most zero = omega arith
presence_most (suc reading) = omega (arith, present_bit (suc reading) (omega arith))

pub reading_size : (reading : ℕ) → length (reading_bytes reading) ≡ presence_bit reading * number_size
unfolding presence_bit reading_bytes
reading_size zero = refl
reading_size (suc reading) =
    let p : 0 < suc reading = omega arith in
    omega (
      arith,
      present_bit (suc reading) p,
      ap length (present_bytes_lem (suc reading) p),
      number_size_lem (suc reading),
    )

module _ (readings : List ℕ) where
  pub map_below : bit_map readings < 2 ^ 32
  unfolding bit_map
  map_below = bits_below (λ b. presence_bit (get_or readings b 0)) 32 (λ b p. presence_most (get_or readings b 0))

  pub map_bit : (b : ℕ) → b < distributor_readings → bit_of (bit_map readings) b ≡ presence_bit (get_or readings b 0)
  unfolding bit_map
  map_bit b p =
      bit_of_bits (λ j. presence_bit (get_or readings j 0)) 32 (λ j q. presence_most (get_or readings j 0)) b p

-- the map at a place has the bits of a distributor's readings
pub record Mapped (sheet : List ℕ) (place : ℕ) (readings : List ℕ) : Type 0 where
  pub bit : (b : ℕ) → b < distributor_readings → bit_at sheet place b ≡ presence_bit (get_or readings b 0)

module _ {sheet : List ℕ} {place : ℕ} {readings : List ℕ} (m : Mapped sheet place readings) where
  bits_size : (b : ℕ) → b ≤ distributor_readings →
      sum_below b (bit_at sheet place) * number_size ≡ length (join_below b (λ j. reading_bytes (get_or readings j 0)))
  unfolding sum_below join_below
  bits_size zero p = refl
  bits_size (suc b) p =
      rw length-append
      (omega (arith, bits_size b (omega arith), m.bit b (omega arith), reading_size (get_or readings b 0)))

  -- so a reading stands after the bytes of those before it, and the next map after them all
  pub reading_place_lem : (b : ℕ) → b ≤ distributor_readings →
      reading_place sheet place b ≡ place + number_size + length
      (join_below b (λ j. reading_bytes (get_or readings j 0)))
  unfolding reading_place
  reading_place_lem b p = ap (λ size. place + number_size + size) (bits_size b p)

  pub distributor_end : reading_place sheet place distributor_readings ≡ place + length (distributor_bytes readings)
  unfolding distributor_bytes
  distributor_end =
      let bytes = join_below distributor_readings (λ j. reading_bytes (get_or readings j 0)) in
      omega (
        arith,
        reading_place_lem distributor_readings (omega arith),
        length-append (number_bytes (bit_map readings)) bytes,
        number_size_lem (bit_map readings),
      )

-- each map stands after the bytes of the distributors before it
pub map_places : (sheet : List ℕ) (readings : ℕ → List ℕ) (n : ℕ) →
    ((i : ℕ) → i < n → map_place sheet i ≡ length (join_below i (λ j. distributor_bytes (readings j))) →
    Mapped sheet (map_place sheet i) (readings i)) →
    (i : ℕ) → i ≤ n → map_place sheet i ≡ length (join_below i (λ j. distributor_bytes (readings j)))
unfolding map_place join_below
map_places sheet readings n h zero p = refl
map_places sheet readings n h (suc i) p =
    let before = map_places sheet readings n h i (omega arith) in
    distributor_end (h i (omega arith) before) ∙ ap (λ place. place + length (distributor_bytes (readings i))) before
    ∙ sym (length-append (join_below i (λ j. distributor_bytes (readings j))) (distributor_bytes (readings i)))
