-- A size up to 2^63 is the word of the number below zero.
use mathlib.Core.Path.{ap}
use native.Mathlib.Omega.{arith}
use borrow.Author.Tests.{le-leb}
use Rattle.std.specs.Prelude.{Some}
use Rattle.journal.proofs.SignedLaws.{word_least}
use Rattle.journal.proofs.number.below_zero.Goals as goal

pub returns-then-size : goal.returns-then-size
returns-then-size c =
    rw (le-leb c.args.size 9223372036854775808 c.if-size.true)
    (ap Some (word_least c.wrapping_neg.result c.args.size (omega arith) c.if-size.true c.wrapping_neg.ensures))
