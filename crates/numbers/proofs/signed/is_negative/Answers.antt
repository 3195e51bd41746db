-- std's test of the sign is the definition's.
use mathlib.Core.Path.{◌∙◌}
use mir.Facts.{to_z-of_z}
use Rattle.numbers.proofs.SignedLaws.{negative_is}
use Rattle.numbers.proofs.signed.is_negative.Goals as goal

pub returns : goal.returns
returns c = c.is_negative.ensures ∙ rw (to_z-of_z c.ranges.x) (negative_is c.args.x)
