-- The invariant: the readings of the distributors passed are written, and the map of the next stands at the place.
use mathlib.Core.Path.{◌≡◌, refl, sym, ◌∙◌, ap}
use mathlib.Core.List.{List, ◌++◌}
use Prim.Native.Nat.{ℕ, ◌+◌, ◌*◌, ◌-◌, ◌≤◌}
use native.Mathlib.Omega.{arith}
use lib.ListN.{length, drop}
use borrow.Rule.Slice.PartMut.{mid_len, put_mid}
use Rattle.numbers.specs.Bounded.{list_below, join_below}
use Rattle.numbers.specs.Sizes.{distributor_readings}
use Rattle.numbers.proofs.JoinLaws.{join_step, join_length}
use Rattle.numbers.proofs.ListLaws.{list_length}
use Rattle.sheet.specs.Sheet.{reading_place, map_place, reading_at, sheet_readings}
use Rattle.sheet.proofs.PlaceLaws.{next_map, maps_rise}
use Rattle.sheet.proofs.FrontLaws.{front_long, front_all, front_more}
use Rattle.sheet.proofs.read.write_all.Goals as goal
use Rattle.sheet.proofs.read.write_all.Invariants.{own}
use Rattle.sheet.proofs.read.write_all.Goals.{At-loop-i, In-loop-i}

done_length : (sheet : List ℕ) (i : ℕ) → length (join_below i (own sheet)) ≡ i * distributor_readings
done_length sheet i =
    join_length (own sheet) i distributor_readings
    (λ j p. list_length (reading_at sheet (map_place sheet j)) distributor_readings)

-- the list keeps its length
long : (l : At-loop-i) →
    length l.loop-i.readings ≡ length l.args.readings.now
long l =
    front_long (join_below l.loop-i.i (own l.args.sheet.now)) _ l.loop-i.invariant.written
    (omega (arith, done_length l.args.sheet.now l.loop-i.i, l.requires.long))

-- so there is room for one distributor more
fits : (c : In-loop-i) →
    c.loop-i.i * distributor_readings + distributor_readings ≤ length c.loop-i.readings
fits c = omega (arith, long (goal.at.slice_bounds-write_readings-end c).At-loop-i, c.requires.long)

pub loop-i-init : goal.loop-i-init
unfolding map_place join_below
loop-i-init c = record { stands = refl; written = refl }

pub write_readings-at-requires : goal.write_readings-at-requires
write_readings-at-requires c =
    record {
      long = mid_len _ _ _ (fits (goal.at.write_readings-at-requires c).In-loop-i) ∙ omega arith;
      within = rw (c.loop-i.invariant.stands, ← next_map c.args.sheet.now c.loop-i.i)
          (omega (arith, c.requires.ends, maps_rise c.args.sheet.now (c.loop-i.i + 1) c.args.n (omega arith)));
    }

pub loop-i-preserved : goal.loop-i-preserved
loop-i-preserved c =
    let sheet = c.args.sheet.now in
    let i = c.loop-i.i in
    let done = join_below i (own sheet) in
    let found = c.args.readings.now in
    let written : c.write_readings-at.new.readings ≡ own sheet i =
    c.write_readings-at.ensures.readings_after
    ∙ ap (λ a. list_below distributor_readings (reading_at sheet a)) c.loop-i.invariant.stands in
    record {
      stands = c.write_readings-at.ensures.value
          ∙ ap (λ a. reading_place sheet a distributor_readings) c.loop-i.invariant.stands
          ∙ sym (next_map sheet i);
      written = ap (put_mid (i * 32) (i * 32 + 32 - i * 32) c.loop-i.readings) written
          ∙ front_more done found c.loop-i.invariant.written (own sheet i) (i * 32) (i * 32 + 32 - i * 32)
          (sym (done_length sheet i))
          (omega (arith, list_length (reading_at sheet (map_place sheet i)) distributor_readings))
          ∙ ap (λ all. all ++ drop (length all) found) (sym (join_step (own sheet) i));
    }

pub returns : goal.returns
unfolding sheet_readings
returns c =
    let sheet = c.args.sheet.now in
    let e : c.loop-i.i ≡ c.args.n = omega arith in
    front_all (join_below c.loop-i.i (own sheet)) _ c.loop-i.invariant.written
    (omega (arith, done_length sheet c.loop-i.i, c.requires.long))
    ∙ ap (λ k. join_below k (own sheet)) e

pub slice_bounds-write_readings-end : goal.slice_bounds-write_readings-end
slice_bounds-write_readings-end c = fits c
