-- The invariant: the walk comes to reading b, whose place lies within the sheet, and the checks before it pass.
use Prim.Native.Nat.{◌+◌, ◌≤◌}
use native.Mathlib.Omega.{arith}
use lib.ListN.{length}
use Rattle.std.proofs.lemmas.Result.{err_from_is_err_and}
use Rattle.sheet.specs.Number.{number_size}
use Rattle.sheet.proofs.ReadLaws.{map_refused, checked_none, checked_more, checked_wrong, checked_all}
use Rattle.sheet.proofs.read.distributor_end.Goals as goal
use Rattle.sheet.proofs.read.distributor_end.Goals.{Else-sheet-start-lt-NUMBER_SIZE}

-- the map stands whole in the sheet
whole : (e : Else-sheet-start-lt-NUMBER_SIZE) → e.args.start + number_size ≤ length e.args.sheet.now
whole e = omega (arith, e.if-sheet-start-lt-NUMBER_SIZE.false, e.requires)

pub returns-then-sheet-start-lt-NUMBER_SIZE : goal.returns-then-sheet-start-lt-NUMBER_SIZE
returns-then-sheet-start-lt-NUMBER_SIZE c = rw (map_refused c.args.sheet.now c.args.start (omega arith))

pub loop-init : goal.loop-init
loop-init c = checked_none _ _ (omega arith) _ c.number_at-bits.ensures

pub returns-in_err-at : goal.returns-in_err-at
returns-in_err-at c =
    let p = err_from_is_err_and c.from_residual.result c.from_residual.ensures.1 in
    let e = (goal.at.returns-in_err-at c).Else-sheet-start-lt-NUMBER_SIZE in
    rw (p.1, p.2) (checked_wrong _ _ (whole e) c.loop.invariant _ c.in_err-at.ensures (omega arith))

pub loop-preserved : goal.loop-preserved
loop-preserved c =
    let e = (goal.at.loop-preserved c).Else-sheet-start-lt-NUMBER_SIZE in
    checked_more _ _ (whole e) c.loop.invariant _ c.in_ok-at.ensures

pub returns : goal.returns
returns c = checked_all _ _ (whole (goal.at.returns c).Else-sheet-start-lt-NUMBER_SIZE) c.loop.invariant (omega arith)
