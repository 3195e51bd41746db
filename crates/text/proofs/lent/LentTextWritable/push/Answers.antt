-- There is room, or the buffer stays.
use Rattle.std.proofs.Common.{refl, length, arith}
use native.Mathlib.Numerals.{add-one}
use borrow.Author.Tests.{lt-ltb, le-ltb}
use Rattle.text.specs.Lent.{written_byte, filled}
use Rattle.text.specs.LentText.{lent_after}
use Rattle.text.proofs.lent.LentTextWritable.push.Goals as goal

pub returns-then-self : goal.returns-then-self
unfolding lent_after filled written_byte
returns-then-self c =
    let lent = c.args.self.now in
    rw (lt-ltb lent.count (length lent.buffer.now) c.if-self.true, add-one) refl

pub returns-else-self : goal.returns-else-self
unfolding lent_after filled written_byte
returns-else-self c =
    let lent = c.args.self.now in
    rw (le-ltb lent.count (length lent.buffer.now) (omega (arith, c.if-self.false))) refl
