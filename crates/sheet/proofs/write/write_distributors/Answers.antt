-- The invariant: the bytes of the distributors passed are written, and the rest is as it was.
use mathlib.Core.Path.{◌≡◌, refl, sym, ◌∙◌, ap}
use mathlib.Core.List.{List, [], ◌∷◌, ◌++◌}
use Prim.Native.Nat.{ℕ, ◌+◌, ◌*◌, ◌/◌, ◌-◌, ◌≤◌}
use native.Mathlib.Omega.{arith}
use lib.ListN.{length, take, drop, length-append, length-drop}
use lib.Seq.{drop-drop, take_at, drop_at}
use borrow.Rule.Slice.PartMut.{mid_len, put_mid}
use Rattle.numbers.specs.Bounded.{join_below}
use Rattle.numbers.specs.Sizes.{distributor_readings}
use Rattle.sheet.specs.Sheet.{readings_of, distributor_bytes, sheet_bytes}
use Rattle.sheet.specs.Write.{most_distributor_bytes, written_first}
use Rattle.sheet.specs.Required.{FirstWritten}
use Rattle.sheet.proofs.FrontLaws.{front_onto}
use Rattle.sheet.proofs.WriteLaws.{distributor_most, sheet_most, sheet_step}
use Rattle.sheet.proofs.write.write_distributors.Goals as goal
use Rattle.sheet.proofs.write.write_distributors.Goals.{In-Some}

-- the readings of a distributor come off what is left, and that of the next distributors is left
module _ (readings own left : List ℕ) (i : ℕ)
    (e : drop (i * distributor_readings) readings ≡ own ++ left) (long : length own ≡ distributor_readings) where
  own_is : own ≡ readings_of readings i
  own_is = sym (take_at own left distributor_readings long) ∙ ap (take distributor_readings) (sym e)

  left_is : left ≡ drop ((i + 1) * distributor_readings) readings
  left_is =
      let next : i * distributor_readings + distributor_readings ≡ (i + 1) * distributor_readings = omega arith in
      sym (drop_at own left distributor_readings long) ∙ ap (drop distributor_readings) (sym e)
      ∙ drop-drop distributor_readings (i * distributor_readings) readings ∙ ap (λ k. drop k readings) next

  one_more : (i + 1) * distributor_readings ≤ length readings
  one_more =
      omega (arith, long, ap length e, length-append own left, length-drop (i * distributor_readings) readings)

module _ (c : In-Some) where
  abbrev readings : List ℕ
  readings = c.args.readings.now

  abbrev i : ℕ
  i = length c.loop-own.yielded

  chunk : drop (i * distributor_readings) readings ≡ c.in-Some.own.now ++ c.next.new.self.rest.now
  chunk = sym c.loop-own.invariant.rest ∙ c.in-Some.ensures.steps.1.0

  width : length c.in-Some.own.now ≡ distributor_readings
  width = c.in-Some.ensures.steps.1.1 ∙ c.loop-own.invariant.width

  own : c.in-Some.own.now ≡ readings_of readings i
  own = own_is readings c.in-Some.own.now c.next.new.self.rest.now i chunk width

  more : (i + 1) * distributor_readings ≤ length readings
  more = one_more readings c.in-Some.own.now c.next.new.self.rest.now i chunk width

  left : c.next.new.self.rest.now ≡ drop ((i + 1) * distributor_readings) readings
  left = left_is readings c.in-Some.own.now c.next.new.self.rest.now i chunk width

  -- there is room for one distributor more
  room : c.loop-own.at + most_distributor_bytes ≤ length c.loop-own.buffer
  room =
      omega (arith, more, c.loop-own.invariant.used, sheet_most i readings, c.requires.room)

pub loop-own-init : goal.loop-own-init
unfolding sheet_bytes join_below
loop-own-init c =
    let e = c.into_iter-own-iterator.ensures.into_iter_gives in
    record {
      width = rw e c.chunks_exact-own-items.ensures.size;
      most = omega arith;
      rest = rw e c.chunks_exact-own-items.ensures.rest;
      used = refl;
      written = refl;
    }

pub write_distributor-at-requires : goal.write_distributor-at-requires
write_distributor-at-requires c =
    let s = (goal.at.write_distributor-at-requires c).In-Some in
    record {
      long = width s;
      room = omega (arith, room s, mid_len c.loop-own.at (length c.loop-own.buffer) c.loop-own.buffer (omega arith));
    }

-- one distributor more is written
module _ (s : In-Some) (used : ℕ) (into : List ℕ)
    (w : FirstWritten (distributor_bytes s.in-Some.own.now)
    (take (length s.loop-own.buffer - s.loop-own.at) (drop s.loop-own.at s.loop-own.buffer)) used into) where
  abbrev bytes : List ℕ
  bytes = distributor_bytes (readings_of (readings s) (i s))

  written : FirstWritten bytes
      (take (length s.loop-own.buffer - s.loop-own.at) (drop s.loop-own.at s.loop-own.buffer)) used into
  written = rw (own s) at w

  few : s.loop-own.at + used ≤ (i s + 1) * most_distributor_bytes
  few =
      omega (
        arith,
        s.loop-own.invariant.used,
        sheet_most (i s) (readings s),
        written.sized,
        distributor_most (readings_of (readings s) (i s)),
      )

  used_more : s.loop-own.at + used ≡ length (sheet_bytes (i s + 1) (readings s))
  used_more =
      omega (
        arith,
        s.loop-own.invariant.used,
        written.sized,
        length-append (sheet_bytes (i s) (readings s)) bytes,
        ap length (sheet_step (i s) (readings s)),
      )

  written_more : put_mid s.loop-own.at (length s.loop-own.buffer - s.loop-own.at) s.loop-own.buffer into
      ≡ sheet_bytes (i s + 1) (readings s)
      ++ drop (length (sheet_bytes (i s + 1) (readings s))) s.args.buffer.now
  unfolding written_first
  written_more =
      ap (put_mid s.loop-own.at (length s.loop-own.buffer - s.loop-own.at) s.loop-own.buffer) written.listed
      ∙ front_onto (sheet_bytes (i s) (readings s)) s.args.buffer.now s.loop-own.invariant.written bytes s.loop-own.at
      (length s.loop-own.buffer - s.loop-own.at) s.loop-own.invariant.used refl
      ∙ ap (λ all. all ++ drop (length all) s.args.buffer.now) (sym (sheet_step (i s) (readings s)))

pub overflow_add-at : goal.overflow_add-at
overflow_add-at c =
    let s = (goal.at.overflow_add-at c).In-Some in
    omega (arith, few s _ _ c.write_distributor-at.ensures, more s, c.requires.few)

pub loop-own-preserved : goal.loop-own-preserved
loop-own-preserved c =
    let s = (goal.at.loop-own-preserved c).In-Some in
    let w = c.write_distributor-at.ensures in
    rw (length-append c.loop-own.yielded (c.in-Some.own ∷ []))
    record {
      width = c.in-Some.ensures.steps.0 ∙ c.loop-own.invariant.width;
      most = more s;
      rest = left s;
      used = used_more s _ _ w;
      written = written_more s _ _ w;
    }

pub returns : goal.returns
unfolding written_first
returns c =
    let readings = c.args.readings.now in
    let e : length c.loop-own.yielded ≡ length readings / distributor_readings =
    omega (
      arith,
      c.loop-own.invariant.most,
      c.in-None.ensures.steps.1,
      c.loop-own.invariant.width,
      ap length c.loop-own.invariant.rest,
      length-drop (length c.loop-own.yielded * distributor_readings) readings,
    ) in
    record {
      sized = c.loop-own.invariant.used ∙ ap (λ n. length (sheet_bytes n readings)) e;
      listed =
          c.loop-own.invariant.written
          ∙ ap (λ n. sheet_bytes n readings ++ drop (length (sheet_bytes n readings)) c.args.buffer.now) e;
    }
