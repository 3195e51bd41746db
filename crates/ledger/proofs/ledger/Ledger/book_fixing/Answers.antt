-- The definition, field by field.
use Rattle.ledger.specs.Ledger.{fixed_ledger}
use Rattle.ledger.proofs.ledger.Ledger.book_fixing.Goals as goal

pub returns : goal.returns
unfolding fixed_ledger
returns c = rw (c.older_stands-stands.ensures, c.older_beside-older.ensures)
