-- The checks in their order, then the sheet of readings that pass.
use mathlib.Core.Path.{◌≡◌, sym}
use Rattle.numbers.specs.Sizes.{most_distributors, distributor_readings}
use Prim.Native.Nat.{◌/◌}
use native.Mathlib.Omega.{arith}
use lib.ListN.{length}
use Rattle.std.specs.Prelude.{Ok}
use Rattle.numbers.proofs.UnitLaws.{between_high}
use Rattle.sheet.specs.Write.{write_verdict}
use Rattle.sheet.proofs.WriteLaws.{writable, count_refused, length_refused, reading_refused, write_passes}
use Rattle.sheet.proofs.WriteLaws.{write_refused, write_accepted}
use Rattle.sheet.proofs.write.write_sheet.Goals as goal
use Rattle.sheet.proofs.write.write_sheet.Goals.{Else-not-all_between}

-- all checks pass
passed : (e : Else-not-all_between) →
    write_verdict e.args.n e.args.readings.now e.args.buffer.now ≡ Ok tt
passed e =
    write_passes _ _ _ (sym e.if-not-is_between.ensures) (sym e.if-not-lengths_right.ensures)
    (sym e.if-not-all_between.ensures)

pub returns-then-not-is_between : goal.returns-then-not-is_between
returns-then-not-is_between c = write_refused _ _ _ _ (count_refused _ _ _ (sym c.if-not-is_between.ensures))

pub lengths_right-requires : goal.lengths_right-requires
lengths_right-requires c = between_high 1 most_distributors c.args.n (sym c.if-not-is_between.ensures)

pub returns-then-not-lengths_right : goal.returns-then-not-lengths_right
returns-then-not-lengths_right c =
    write_refused _ _ _ _
    (length_refused _ _ _ (sym c.if-not-is_between.ensures) (sym c.if-not-lengths_right.ensures))

pub returns-then-not-all_between : goal.returns-then-not-all_between
returns-then-not-all_between c =
    write_refused _ _ _ _
    (reading_refused _ _ _ (sym c.if-not-is_between.ensures) (sym c.if-not-lengths_right.ensures)
    (sym c.if-not-all_between.ensures))

-- the readings are those of n distributors
counted : (e : Else-not-all_between) → e.args.n ≡ length e.args.readings.now / distributor_readings
counted e = omega (arith, (writable _ _ _ (passed e)).read)

pub write_distributors-requires : goal.write_distributors-requires
write_distributors-requires c =
    let e = (goal.at.write_distributors-requires c).Else-not-all_between in
    rw (← counted e) (writable _ _ _ (passed e))

pub returns : goal.returns
returns c =
    let e = (goal.at.returns c).Else-not-all_between in
    write_accepted _ _ _ _ _ (passed e) (rw (← counted e) at c.write_distributors.ensures)
