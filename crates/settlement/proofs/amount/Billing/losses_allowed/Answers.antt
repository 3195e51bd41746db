-- The two tests are the definition's.
use mathlib.Core.Path.{◌∙◌, ap, ap₂}
use mathlib.Core.Bool.{◌&&◌}
use Rattle.numbers.specs.Units.{between}
use Rattle.settlement.specs.Amount.{losses_allowed}
use Rattle.settlement.proofs.amount.Billing.losses_allowed.Goals as goal

pub returns : goal.returns
unfolding losses_allowed
returns c =
    ap₂ ◌&&◌
    (c.is_between.ensures ∙ ap (between 10000 20000) c.high_loss.ensures)
    (c.is_between-2.ensures ∙ ap (between 10000 20000) c.low_loss.ensures)
