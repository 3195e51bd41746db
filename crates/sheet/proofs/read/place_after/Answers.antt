-- A reading that is absent, cut off, zero, or none of these.
use mathlib.Core.Path.{◌≡◌, ap}
use native.Mathlib.Omega.{arith}
use Rattle.std.specs.Prelude.{Ok}
use Rattle.sheet.proofs.ReadLaws.{absent_passes, short_refused, zero_refused, present_passes}
use Rattle.sheet.proofs.read.place_after.Goals as goal
use Rattle.sheet.proofs.read.place_after.Goals.{Else-bit-eq0}

-- the bit is set
one : (e : Else-bit-eq0) → e.args.bit ≡ 1
one e = omega (arith, e.requires.bit_below_two, e.if-bit-eq0.false)

pub returns-then-bit-eq0 : goal.returns-then-bit-eq0
returns-then-bit-eq0 c =
    rw (c.if-bit-eq0.true, absent_passes c.args.sheet.now c.args.place) (ap Ok (omega arith))

pub returns-then-sheet-place-lt-NUMBER_SIZE : goal.returns-then-sheet-place-lt-NUMBER_SIZE
returns-then-sheet-place-lt-NUMBER_SIZE c =
    rw (
      one (goal.at.returns-then-sheet-place-lt-NUMBER_SIZE c).Else-bit-eq0,
      short_refused c.args.sheet.now c.args.place (omega arith),
    )

pub returns-then-number_at-eq0 : goal.returns-then-number_at-eq0
returns-then-number_at-eq0 c =
    rw (
      one (goal.at.returns-then-number_at-eq0 c).Else-bit-eq0,
      zero_refused c.args.sheet.now c.args.place (omega arith) (omega arith),
    )

pub returns : goal.returns
returns c =
    rw (
      one (goal.at.returns c).Else-bit-eq0,
      present_passes c.args.sheet.now c.args.place (omega arith) (omega arith),
    )
