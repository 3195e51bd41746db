-- The tests are the definition's.
use Rattle.supply.specs.Range.{head_in_range}
use Rattle.supply.proofs.range.head_in_range.Goals as goal

pub returns : goal.returns
unfolding head_in_range
returns c =
    rw (
      ← c.is_between.ensures,
      ← c.is_between-2.ensures,
      ← c.is_between-3.ensures,
      ← c.is_between-4.ensures,
    )
