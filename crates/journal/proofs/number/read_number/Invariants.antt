-- The invariant: the digits passed are read.
use mathlib.Core.Path.{◌≡◌}
use Rattle.std.specs.Prelude.{Some}
use Rattle.journal.specs.Number.{digits_read}
use Rattle.journal.proofs.number.read_number.Given as goal

abbrev pub invariant-loop-digit : goal.invariant-loop-digit
invariant-loop-digit l = digits_read l.digit-index l.digits ≡ Some l.value
