-- The invariant: the map of distributor i stands within the sheet, and the checks before it pass.
use mathlib.Core.Path.{◌≡◌}
use native.Mathlib.Omega.{arith}
use Rattle.std.proofs.lemmas.Result.{err_from_is_err_and}
use Rattle.sheet.proofs.ReadLaws.{SheetChecked, sheet_none, sheet_more, sheet_wrong, sheet_left, sheet_all}
use Rattle.sheet.proofs.read.sheet_verdict.Goals as goal
use Rattle.sheet.proofs.read.sheet_verdict.Goals.{After-loop}

pub loop-init : goal.loop-init
loop-init c = sheet_none _

pub returns-in_err-at : goal.returns-in_err-at
returns-in_err-at c =
    let p = err_from_is_err_and c.from_residual.result c.from_residual.ensures.1 in
    rw (p.1, p.2) (sheet_wrong c.loop.invariant _ _ c.in_err-at.ensures (omega arith))

pub loop-preserved : goal.loop-preserved
loop-preserved c = sheet_more c.loop.invariant _ c.in_ok-at.ensures

-- all distributors passed
ended : (a : After-loop) → SheetChecked a.args.sheet.now a.loop.at a.args.n
ended a =
    let e : a.loop.counter ≡ a.args.n = omega arith in
    rw e at a.loop.invariant

pub returns-then-at-sheet : goal.returns-then-at-sheet
returns-then-at-sheet c = sheet_left _ _ _ (ended (goal.at.returns-then-at-sheet c).After-loop) (omega arith)

pub returns : goal.returns
returns c = sheet_all _ _ _ (ended (goal.at.returns c).After-loop) (omega arith)
