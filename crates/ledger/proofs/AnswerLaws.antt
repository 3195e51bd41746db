-- Two answers that hold the definitions of a settlement's checks: class example 9 is accepted, by computation; and the
-- turn is looked at before the fixing. Assumes nothing.
use mathlib.Core.Path.{◌≡◌, refl}
use mathlib.Core.Bool.{true, false}
use Rattle.numbers.specs.Refusal.{is_passed}
use Rattle.numbers.specs.Checks.{verdict_of}
use Rattle.ledger.specs.Example.{print_ledger, first_billing}
use Rattle.ledger.specs.Ledger.{any_settled, next_month}
use Rattle.ledger.specs.Settle.{SettlementCall, billing_lengths, settlement_checks, settlement_verdict}
use Rattle.ledger.specs.Sound.{sound}
use Rattle.ledger.specs.Turn.{settlement_turn}
use Rattle.numbers.specs.declared.refusal.Refusal.TheVariants.{Unsound, WrongLength, OutOfTurn}
use Rattle.std.specs.Prelude.{Err}
use Rattle.numbers.proofs.CheckLaws.{FirstPass, passes, refused_unless}
use Rattle.ledger.specs.declared.ledger.Ledger.{Ledger}
use Rattle.ledger.proofs.Computed.{ledger_computed}

pub example_settled : is_passed (settlement_verdict print_ledger first_billing) ≡ true
unfolding ledger_computed
example_settled = refl

-- a month out of turn is 4, with a fixing or without
pub out_of_turn : (ledger : Ledger) (call : SettlementCall) → sound ledger ≡ true →
    billing_lengths ledger.n call ≡ true →
    settlement_turn (any_settled ledger) (next_month ledger) ledger.fixed ledger.month call.month ≡ false →
    verdict_of (settlement_checks ledger call) ≡ Err OutOfTurn
unfolding FirstPass settlement_checks
out_of_turn ledger call a b =
    refused_unless 2 (settlement_checks ledger call) 4 _ OutOfTurn _ (passes Unsound a, (passes WrongLength b, tt)) refl
