-- The definition, field by field.
use Rattle.ledger.specs.Ledger.{settled_ledger}
use Rattle.ledger.proofs.ledger.Ledger.book_month.Goals as goal

pub returns : goal.returns
unfolding settled_ledger
returns c = rw c.raise_counts-self.ensures
