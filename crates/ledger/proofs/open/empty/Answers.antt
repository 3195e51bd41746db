-- The definition, field by field: no charges, and forty balances and counts of zero.
use mathlib.Core.Path.{ap}
use lib.IntN.{pos}
use Rattle.settlement.proofs.MonthLaws.{money_none}
use Rattle.ledger.specs.Ledger.{no_balances, no_counts, unfixed_ledger, empty_ledger}
use Rattle.ledger.proofs.open.empty.Goals as goal

pub returns : goal.returns
unfolding empty_ledger unfixed_ledger no_balances
returns c =
    rw c.no_charges-nothing.ensures
    (ap (λ b. unfixed_ledger c.args.n 0 b no_counts) (money_none (λ i. pos 0)))
