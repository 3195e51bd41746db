-- The map is written first, and the readings after it.
use mathlib.Core.Path.{◌≡◌, refl, ◌∙◌, ap}
use mathlib.Core.List.{List, ◌++◌}
use Prim.Native.Nat.{ℕ, ◌-◌, ◌≤◌}
use native.Mathlib.Omega.{arith}
use lib.ListN.{length, drop, length-append}
use borrow.Rule.Slice.PartMut.{put_mid}
use Rattle.numbers.specs.Sizes.{distributor_readings}
use Rattle.sheet.specs.Number.{number_size, number_bytes}
use Rattle.sheet.specs.Sheet.{bit_map, present_bytes, distributor_bytes}
use Rattle.sheet.specs.Write.{written_first}
use Rattle.sheet.proofs.FrontLaws.{front_long, front_onto}
use Rattle.sheet.proofs.NumberLaws.{number_size_lem}
use Rattle.sheet.proofs.WriteLaws.{before_most}
use Rattle.sheet.proofs.write.write_distributor.Goals as goal
use Rattle.sheet.proofs.write.write_distributor.Goals.{After-write_number, After-write_present}

-- the bytes of the map
abbrev map : List ℕ → List ℕ
map readings = number_bytes (bit_map readings)

-- the bytes after the map
module _ (w : After-write_number) where
  abbrev m : List ℕ
  m = map w.args.readings.now

  front : w.write_number.new.into ≡ m ++ drop (length m) w.args.into.now
  unfolding number_bytes
  front =
      w.write_number.ensures
      ∙ ap (λ number. number_bytes number ++ drop number_size w.args.into.now) w.bit_map.ensures

  long : length w.write_number.new.into ≡ length w.args.into.now
  long =
      front_long m w.args.into.now front
      (omega (arith, number_size_lem (bit_map w.args.readings.now), w.requires.room))

  room : 132 ≤ length w.write_number.new.into
  room = omega (arith, long, w.requires.room)

-- and after the readings
module _ (p : After-write_present) where
  abbrev now : List ℕ
  now = p.write_number.new.into

  abbrev readings : List ℕ
  readings = p.args.readings.now

  whole : now ≡ map readings ++ drop (length (map readings)) p.args.into.now →
      put_mid 4 (length now - 4) now p.write_present.new.into
      ≡ (map readings ++ present_bytes readings)
      ++ drop (length (map readings ++ present_bytes readings)) p.args.into.now
  unfolding written_first
  whole f =
      ap (put_mid 4 (length now - 4) now) p.write_present.ensures.listed
      ∙ front_onto (map readings) p.args.into.now f (present_bytes readings) 4 (length now - 4)
      (omega (arith, number_size_lem (bit_map readings))) refl

pub overflow_add-result : goal.overflow_add-result
overflow_add-result c =
    omega (arith, c.write_present.ensures.sized, before_most c.args.readings.now distributor_readings)

pub returns : goal.returns
unfolding distributor_bytes written_first
returns c =
    let readings = c.args.readings.now in
    record {
      sized =
          omega (
            arith,
            c.write_present.ensures.sized,
            number_size_lem (bit_map readings),
            length-append (map readings) (present_bytes readings),
          );
      listed = whole (goal.at.returns c).After-write_present (front (goal.at.returns c).After-write_number);
    }
