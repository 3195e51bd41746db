-- By the sign, the number of the digits after it.
use mathlib.Core.Path.{◌≡◌, ◌∙◌, ap}
use Rattle.std.specs.Prelude.{option_and_then}
use Rattle.journal.specs.Number.{is_minus, below_zero, above_zero, signed_in}
use Rattle.journal.proofs.number.read_signed.Goals as goal
use Rattle.journal.proofs.number.read_signed.Goals.{After-read_number, After-read_number-2}

-- what is read after a minus, and without one
below : (r : After-read_number) → option_and_then below_zero r.read_number.result ≡ signed_in r.args.bytes.now
unfolding signed_in is_minus
below r =
    rw (r.in-Some.ensures.cases.0, ← r.in-Some.ensures.cases.1)
    (ap (option_and_then below_zero) r.read_number.ensures)

above : (r : After-read_number-2) → option_and_then above_zero r.read_number-2.result ≡ signed_in r.args.bytes.now
unfolding signed_in is_minus
above r = rw r.in_default.ensures.cases (ap (option_and_then above_zero) r.read_number-2.ensures)

pub returns-in_err-read_number : goal.returns-in_err-read_number
returns-in_err-read_number c =
    c.from_residual.ensures
    ∙ rw c.in_err-read_number.was at (below (goal.at.returns-in_err-read_number c).After-read_number)

pub returns-in-Some : goal.returns-in-Some
returns-in-Some c =
    c.below_zero.ensures
    ∙ rw c.in_ok-read_number.was at (below (goal.at.returns-in-Some c).After-read_number)

pub returns-in_err-read_number-2 : goal.returns-in_err-read_number-2
returns-in_err-read_number-2 c =
    c.from_residual-in_err-read_number-2.ensures
    ∙ rw c.in_err-read_number-2.was at (above (goal.at.returns-in_err-read_number-2 c).After-read_number-2)

pub returns : goal.returns
returns c =
    c.above_zero.ensures
    ∙ rw c.in_ok-read_number-2.was at (above (goal.at.returns c).After-read_number-2)
