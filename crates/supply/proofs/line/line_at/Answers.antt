-- The words and the terms are the definition's.
use Rattle.supply.specs.Line.{line_of}
use Rattle.supply.proofs.line.line_at.Goals as goal

pub returns : goal.returns
unfolding line_of
returns c =
    rw (
      c.term_from.ensures,
      c.term_from-2.ensures,
      c.term_from-3.ensures,
      c.term_from-4.ensures,
      c.power_term_from.ensures,
    )
