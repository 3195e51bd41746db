-- The invariant: the walk comes to reading b, and those before it are written.
use mathlib.Core.Path.{refl, ◌∙◌, ap₂}
use Prim.Native.Nat.{◌+◌, ◌*◌, ◌%◌, ◌≤◌}
use native.Mathlib.Omega.{arith}
use lib.ListN.{length}
use Rattle.numbers.specs.Sizes.{distributor_readings}
use Rattle.numbers.proofs.ListLaws.{written_none, written_more}
use Rattle.sheet.specs.Number.{number_size}
use Rattle.sheet.specs.Sheet.{reading_by, reading_at}
use Rattle.sheet.proofs.PlaceLaws.{walked_none, walked_bit, walked_next, walked_more, first_place}
use Rattle.sheet.proofs.PlaceLaws.{places_rise}
use Rattle.sheet.proofs.read.write_readings.Goals as goal
use Rattle.sheet.proofs.read.write_readings.Goals.{In-loop-reading, Start}

-- the map stands whole in the sheet
map_within : (s : Start) → s.args.place + number_size ≤ length s.args.sheet.now
map_within s =
    omega (
      arith,
      s.requires.within,
      first_place s.args.sheet.now s.args.place,
      places_rise s.args.sheet.now s.args.place 0 distributor_readings (omega arith),
    )

-- and so does the reading that comes next, where it is present
reading_within : (c : In-loop-reading) →
    c.loop-reading.at + c.loop-reading.bits % 2 * number_size ≤ length c.args.sheet.now
reading_within c =
    omega (
      arith,
      c.requires.within,
      walked_next c.args.sheet.now c.args.place c.loop-reading.invariant.walked,
      places_rise c.args.sheet.now c.args.place (c.loop-reading.reading-index + 1) distributor_readings (omega arith),
    )

pub number_at-bits-requires : goal.number_at-bits-requires
number_at-bits-requires c = map_within (goal.at.number_at-bits-requires c).Start

pub overflow_add-at : goal.overflow_add-at
overflow_add-at c = omega (arith, map_within (goal.at.overflow_add-at c).Start)

pub loop-reading-init : goal.loop-reading-init
loop-reading-init c =
    record {
      walked = walked_none _ _ _ _ c.number_at-bits.ensures refl;
      written = written_none _ _ _ c.requires.long;
    }

pub reading_by-requires-clause-within : goal.reading_by-requires-clause-within
reading_by-requires-clause-within c = reading_within (goal.at.reading_by-requires-clause-within c).In-loop-reading

pub overflow_add-at-in-loop-reading : goal.overflow_add-at-in-loop-reading
overflow_add-at-in-loop-reading c =
    omega (arith, reading_within (goal.at.overflow_add-at-in-loop-reading c).In-loop-reading)

pub loop-reading-preserved : goal.loop-reading-preserved
unfolding reading_at
loop-reading-preserved c =
    let w = c.loop-reading.invariant.walked in
    record {
      walked = walked_more _ _ w _ refl;
      written = written_more c.loop-reading.invariant.written (omega arith)
          (c.reading_by.ensures
          ∙ ap₂ (λ bit a. reading_by bit c.args.sheet.now a) (walked_bit _ _ w) w.stands);
    }
