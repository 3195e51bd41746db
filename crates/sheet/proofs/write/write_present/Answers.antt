-- The invariant: the readings passed are written, where they are present, and the rest is as it was.
use mathlib.Core.Path.{◌≡◌, refl, sym, ◌∙◌, ap}
use mathlib.Core.List.{List, ◌++◌}
use Prim.Native.Nat.{ℕ, ◌+◌, ◌*◌, ◌-◌, ◌≤◌, ◌<◌}
use native.Mathlib.Omega.{arith}
use lib.ListN.{length, get_or, drop, length-append}
use borrow.Rule.Slice.PartMut.{mid_len, put_mid}
use Rattle.numbers.specs.Bounded.{join_below}
use Rattle.numbers.specs.Sizes.{distributor_readings}
use Rattle.numbers.proofs.JoinLaws.{join_step}
use Rattle.sheet.specs.Number.{number_size}
use Rattle.sheet.specs.Sheet.{reading_bytes}
use Rattle.sheet.specs.Write.{written_first}
use Rattle.sheet.proofs.FrontLaws.{front_onto}
use Rattle.sheet.proofs.WriteLaws.{bytes_before, reading_most, before_most}
use Rattle.sheet.proofs.write.write_present.Goals as goal
use Rattle.sheet.proofs.write.write_present.Goals.{At-loop-reading}

-- there is room for one reading more
module _ (l : At-loop-reading) where
  abbrev done : List ℕ
  done = bytes_before l.args.readings.now l.loop-reading.reading-index

  few : l.loop-reading.at ≤ l.loop-reading.reading-index * number_size
  few = omega (arith, l.loop-reading.invariant.used, before_most l.args.readings.now l.loop-reading.reading-index)

  room : l.loop-reading.reading-index < length l.args.readings.now →
      l.loop-reading.at + number_size ≤ length l.loop-reading.into
  room p = omega (arith, few, l.requires.room, l.requires.long)

pub loop-reading-init : goal.loop-reading-init
unfolding join_below
loop-reading-init c = record { used = refl; written = refl }

pub write_reading-at-requires : goal.write_reading-at-requires
write_reading-at-requires c =
    omega (
      arith,
      room (goal.at.write_reading-at-requires c).At-loop-reading c.loop-reading-test.true,
      mid_len c.loop-reading.at (length c.loop-reading.into) c.loop-reading.into (omega arith),
    )

pub overflow_add-at : goal.overflow_add-at
overflow_add-at c =
    omega (
      arith,
      few (goal.at.overflow_add-at c).At-loop-reading,
      c.write_reading-at.ensures.sized,
      reading_most (get_or c.args.readings.now c.loop-reading.reading-index 0),
    )

pub loop-reading-preserved : goal.loop-reading-preserved
unfolding written_first
loop-reading-preserved c =
    let readings = c.args.readings.now in
    let found = c.args.into.now in
    let at = c.loop-reading.at in
    let into = c.loop-reading.into in
    let before = done (goal.at.loop-reading-preserved c).At-loop-reading in
    let bytes = reading_bytes (get_or readings c.loop-reading.reading-index 0) in
    let next = sym (join_step (λ j. reading_bytes (get_or readings j 0)) c.loop-reading.reading-index) in
    let held = c.loop-reading.invariant in
    record {
      used =
          omega (arith, held.used, c.write_reading-at.ensures.sized, length-append before bytes, ap length next);
      written =
          ap (put_mid at (length into - at) into) c.write_reading-at.ensures.listed
          ∙ front_onto before found held.written bytes at (length into - at) held.used refl
          ∙ ap (λ all. all ++ drop (length all) found) next;
    }

pub returns : goal.returns
unfolding written_first
returns c =
    let readings = c.args.readings.now in
    let e : c.loop-reading.reading-index ≡ distributor_readings = omega arith in
    record {
      sized = c.loop-reading.invariant.used ∙ ap (λ b. length (bytes_before readings b)) e;
      listed =
          c.loop-reading.invariant.written
          ∙ ap (λ b. bytes_before readings b ++ drop (length (bytes_before readings b)) c.args.into.now) e;
    }
