use mathlib.Core.Path.{ap, ◌∙◌}
use lib.Dec.{leb}
use mir.Facts.{to_z-of_z}
use lib.IntN.{nat_abs}
use Rattle.numbers.specs.Signed.{within_size}
use Rattle.numbers.proofs.signed.within_size.Goals as goal

pub returns : goal.returns
unfolding within_size
returns c =
    ap (λ size. leb size c.args.bound) c.unsigned_abs.ensures.value
    ∙ ap (λ x. leb (nat_abs x) c.args.bound) (to_z-of_z c.ranges.x)
