-- An accepted settlement hands back the month that the definitions settle, in which no sign turns.
use Rattle.settlement.specs.Month.{money_at}
use Rattle.settlement.proofs.SettlementLaws.{no_sign_turns}
use Rattle.ledger.specs.Settle.{positions_of}
use Rattle.ledger.proofs.SettleLaws.{settled_balance, settled_transfer}
use Rattle.ledger.proofs.settle.no_sign_turns.Goals as goal

pub returns : goal.returns
returns c ledger next call list promise i p =
    rw (settled_balance ledger next call list promise i p, settled_transfer ledger next call list promise i p)
    (no_sign_turns ledger.n (money_at (positions_of ledger call)) i p)
