-- The four tests are the definition's, at the greatest reading of the sector.
use Rattle.numbers.specs.Bounded.{all_below}
use Rattle.settlement.specs.Amount.{reading_allowed, sector_allowed}
use Rattle.settlement.proofs.amount.Billing.sector_allowed.Goals as goal

pub returns : goal.returns
unfolding sector_allowed all_below reading_allowed
returns c =
    rw (
      c.bound_where-most.ensures,
      c.reading.ensures,
      c.reading-2.ensures,
      c.reading-3.ensures,
      c.reading-4.ensures,
    )
