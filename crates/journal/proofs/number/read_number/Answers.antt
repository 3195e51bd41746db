-- The invariant: the digits passed are read.
use mathlib.Core.Path.{◌≡◌, refl, sym, ◌∙◌}
use Prim.Native.Nat.{◌+◌}
use native.Mathlib.Omega.{arith}
use native.Mathlib.Numerals.{add-one}
use lib.ListN.{length}
use Rattle.std.specs.Prelude.{None}
use Rattle.journal.specs.Number.{digits_read, number_in}
use Rattle.journal.proofs.NumberLaws.{digits_none}
use Rattle.journal.proofs.number.read_number.Goals as goal
use Rattle.journal.proofs.number.read_number.Goals.{After-take_digit}

pub returns-then-is_empty : goal.returns-then-is_empty
unfolding number_in
returns-then-is_empty c =
    rw (sym c.is_empty.ensures ∙ c.if-is_empty.true)

pub loop-digit-init : goal.loop-digit-init
unfolding digits_read
loop-digit-init c = refl

-- one digit more
taken : (t : After-take_digit) →
    digits_read (t.loop-digit.digit-index + 1) t.args.digits.now ≡ t.take_digit.result
unfolding digits_read
taken t = rw (add-one, t.loop-digit.invariant) (sym t.take_digit.ensures)

pub loop-digit-preserved : goal.loop-digit-preserved
loop-digit-preserved c = taken (goal.at.loop-digit-preserved c).After-take_digit ∙ c.in_ok-value.was

pub returns-in_err-value : goal.returns-in_err-value
unfolding number_in
returns-in_err-value c =
    let digits = c.args.digits.now in
    let none : digits_read (c.loop-digit.digit-index + 1) digits ≡ None =
    taken (goal.at.returns-in_err-value c).After-take_digit ∙ c.in_err-value.was in
    rw (c.from_residual.ensures, sym c.is_empty.ensures ∙ c.if-is_empty.false)
    (sym (digits_none digits (c.loop-digit.digit-index + 1) (length digits) (omega arith) none))

pub returns : goal.returns
unfolding number_in
returns c =
    let digits = c.args.digits.now in
    let last : c.loop-digit.digit-index ≡ length digits = omega arith in
    rw (sym c.is_empty.ensures ∙ c.if-is_empty.false) (sym (rw last at c.loop-digit.invariant))
