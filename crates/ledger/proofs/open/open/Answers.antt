-- The test of the count is the one check of an opening.
use mathlib.Core.Path.{sym}
use Rattle.ledger.proofs.OpenLaws.{opening_accepted, opening_refused}
use Rattle.ledger.proofs.open.open.Goals as goal

pub returns-then-is_between : goal.returns-then-is_between
returns-then-is_between c = opening_accepted _ _ (sym c.if-is_between.ensures) c.empty.ensures

pub returns : goal.returns
returns c = rw c.refused.ensures (opening_refused _ _ (sym c.if-is_between.ensures) c.empty-2.ensures)
