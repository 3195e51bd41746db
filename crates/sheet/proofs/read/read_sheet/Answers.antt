-- The checks in their order, then the readings of a sheet that passes.
use mathlib.Core.Path.{◌≡◌, sym, ◌∙◌}
use native.Mathlib.Omega.{arith}
use Rattle.std.proofs.lemmas.Result.{err_from_is_err_and}
use Rattle.numbers.specs.Checks.{verdict_of}
use Rattle.numbers.specs.Sizes.{most_distributors}
use Rattle.numbers.proofs.UnitLaws.{between_high}
use Rattle.sheet.specs.Sheet.{sheet_checks}
use Rattle.sheet.specs.Read.{read_checks}
use Rattle.sheet.proofs.ReadLaws.{maps_within, count_refused, length_refused, read_due}
use Rattle.sheet.proofs.ReadLaws.{read_refused, read_accepted}
use Rattle.sheet.proofs.read.read_sheet.Goals as goal
use Rattle.sheet.proofs.read.read_sheet.Goals.{Else-readings-n}

-- the checks of the sheet give the verdict
due : (e : Else-readings-n) →
    verdict_of (read_checks e.args.n e.args.sheet.now e.args.readings.now)
    ≡ verdict_of (sheet_checks e.args.n e.args.sheet.now)
due e = read_due _ _ _ (sym e.if-not-is_between.ensures) e.if-readings-n.false

pub returns-then-not-is_between : goal.returns-then-not-is_between
returns-then-not-is_between c = read_refused _ _ _ _ (count_refused _ _ _ (sym c.if-not-is_between.ensures))

pub overflow_mul-n : goal.overflow_mul-n
overflow_mul-n c = omega (arith, between_high 1 most_distributors c.args.n (sym c.if-not-is_between.ensures))

pub returns-then-readings-n : goal.returns-then-readings-n
returns-then-readings-n c =
    read_refused _ _ _ _ (length_refused _ _ _ (sym c.if-not-is_between.ensures) c.if-readings-n.true)

pub returns-in_err-sheet_verdict : goal.returns-in_err-sheet_verdict
returns-in_err-sheet_verdict c =
    let p = err_from_is_err_and c.from_residual.result c.from_residual.ensures.1 in
    rw (p.1, p.2)
    (read_refused _ _ _ _
    (due (goal.at.returns-in_err-sheet_verdict c).Else-readings-n ∙ sym c.in_err-sheet_verdict.ensures))

pub write_all-requires : goal.write_all-requires
write_all-requires c =
    record {
      few = between_high 1 most_distributors c.args.n (sym c.if-not-is_between.ensures);
      ends = maps_within c.args.n c.args.sheet.now (sym c.in_ok-sheet_verdict.ensures);
      long = c.if-readings-n.false;
    }

pub returns : goal.returns
returns c =
    read_accepted _ _ _ _
    (due (goal.at.returns c).Else-readings-n ∙ sym c.in_ok-sheet_verdict.ensures)
    c.write_all.ensures
