-- An accepted settlement hands back the month that the definitions settle, in which the smaller side clears.
use mathlib.Core.Path.{◌∙◌}
use Rattle.settlement.specs.Month.{money_at}
use Rattle.settlement.proofs.SettlementLaws.{smaller_side_clears}
use Rattle.ledger.specs.Settle.{positions_of}
use Rattle.ledger.proofs.SettleLaws.{settled_balance, settled_transfer}
use Rattle.ledger.proofs.settle.smaller_side_clears.Goals as goal

pub returns : goal.returns
returns c ledger next call list promise i p smaller =
    let full = smaller_side_clears ledger.n (money_at (positions_of ledger call)) i p smaller in
    record {
      cleared = settled_balance ledger next call list promise i p ∙ full.cleared;
      turned = settled_transfer ledger next call list promise i p ∙ full.turned;
    }
