-- The definition, field by field.
use Rattle.ledger.specs.Ledger.{unfixed_ledger, joined_ledger}
use Rattle.ledger.proofs.ledger.Ledger.book_join.Goals as goal

pub returns : goal.returns
unfolding joined_ledger unfixed_ledger
returns c = rw c.no_charges-nothing.ensures
