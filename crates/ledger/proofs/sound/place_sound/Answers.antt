-- Whether the sector is present picks the test, as in the definition.
use mir.Facts.{to_z-of_z}
use Rattle.ledger.specs.Sound.{place_test}
use mir.Syntax.{w64}
use Rattle.ledger.proofs.sound.place_sound.Goals as goal

pub returns-then-present : goal.returns-then-present
unfolding place_test
returns-then-present c = rw (c.if-present.true, c.within_size.ensures, to_z-of_z {w = w64} c.ranges.charge)

pub returns-else-present : goal.returns-else-present
unfolding place_test
returns-else-present c =
    rw (c.if-present.false, c.within_size-else-present.ensures, to_z-of_z {w = w64} c.ranges.charge)
