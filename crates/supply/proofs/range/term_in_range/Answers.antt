-- The tests are the definition's.
use Rattle.supply.specs.Range.{term_in_range}
use Rattle.supply.proofs.range.term_in_range.Goals as goal

pub returns : goal.returns
unfolding term_in_range
returns c =
    rw (
      ← c.is_between.ensures,
      ← c.is_between-2.ensures,
      ← c.window_allowed.ensures,
      ← c.is_between-3.ensures,
    )
