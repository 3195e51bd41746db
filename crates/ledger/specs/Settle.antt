-- The open call of settlement: its checks in their order, its answer, the ledger handed back and the transfers written;
-- and the side that clears (W-203 of document 02). Assumes nothing.
use Rattle.std.specs.Prelude.{◌≡◌, Result, Bool, cond, ◌&&◌, List, [], ◌∷◌, ℕ, ◌*◌, eqb, length, get_or, ℤ, pos, neg_ℤ}
use Rattle.numbers.specs.Bounded.{list_below}
use Rattle.numbers.specs.Refusal.{Verdict, answer_by, is_passed}
use Rattle.numbers.specs.Checks.{Check, check, verdict_of, Judged}
use Rattle.numbers.specs.declared.refusal.Refusal.TheVariants.{Unsound, WrongLength, OutOfTurn, NoFixing, WrongReading}
use Rattle.numbers.specs.declared.refusal.Refusal.TheVariants.{PositionBeyond}
use Rattle.numbers.specs.declared.refusal.Refusal.{Refusal}
use Rattle.numbers.specs.declared.units.Pesos.{Pesos}
use Rattle.settlement.specs.Amount.{billing_in_range}
use Rattle.settlement.specs.Settlement.{positions_in_range}
use Rattle.settlement.specs.Month.{money_at, position_list, settled_month}
use Rattle.settlement.specs.declared.month.SettledMonth.{SettledMonth}
use Rattle.ledger.specs.Ledger.{any_settled, next_month, settled_ledger}
use Rattle.ledger.specs.Billed.{billed_under}
use Rattle.ledger.specs.Sound.{sound}
use Rattle.ledger.specs.Turn.{settlement_turn}
use Rattle.ledger.specs.declared.ledger.Ledger.{Ledger}

-- what a settlement is given beside the ledger: its month, readings, loss factors, and the lent list for the transfers,
-- as found
pub record SettlementCall : Type 0 where
  pub month : ℕ
  pub readings : List ℕ
  pub losses : List ℕ
  pub transfers : List ℤ

-- a call from its parts
abbrev pub settlement_call_of : ℕ → List ℕ → List ℕ → List ℤ → SettlementCall
settlement_call_of month readings losses transfers =
    record { month = month; readings = readings; losses = losses; transfers = transfers }

-- "Readings: 32n words", "Loss factors .. 2n words", "Transfers, n signed words"
unfoldable pub settlement_lengths : ℕ → List ℕ → List ℕ → List ℤ → Bool
settlement_lengths n readings losses transfers =
    eqb (length readings) (n * 32) && eqb (length losses) (n * 2) && eqb (length transfers) n

-- of a call
abbrev pub billing_lengths : ℕ → SettlementCall → Bool
billing_lengths n call = settlement_lengths n call.readings call.losses call.transfers

-- the positions of the month, from the ledger's balances and the charges that it is billed under
unfoldable pub positions_of : Ledger → SettlementCall → List Pesos
positions_of ledger call =
    position_list ledger.n ledger.balances (billed_under ledger call.month).charges call.readings
    call.losses

-- the checks of a settlement in their order: unsound ledger, a lent list of wrong length, month above 1,199 or out of
-- turn, no fixing, reading or loss factor, position beyond ±10^15
unfoldable pub settlement_checks : Ledger → SettlementCall → List Check
settlement_checks ledger call =
    check 2 (sound ledger) Unsound
    ∷ check 3 (billing_lengths ledger.n call) WrongLength
    ∷ check 4
    (settlement_turn (any_settled ledger) (next_month ledger) ledger.fixed ledger.month call.month) OutOfTurn
    ∷ check 5 ledger.fixed NoFixing
    ∷ check 12 (billing_in_range ledger.n (billed_under ledger call.month).present call.readings call.losses)
    WrongReading
    ∷ check 13 (positions_in_range ledger.n (money_at (positions_of ledger call))) PositionBeyond
    ∷ []

unfoldable pub settlement_verdict : Ledger → SettlementCall → Verdict
settlement_verdict ledger call = verdict_of (settlement_checks ledger call)

-- the month settled, or why it is refused
unfoldable pub settled_answer : Ledger → SettlementCall → Result SettledMonth Refusal
settled_answer ledger call =
    answer_by (settlement_verdict ledger call) (settled_month ledger.n (positions_of ledger call))

-- the ledger handed back: a refused one unchanged
unfoldable pub settlement_ledger : Ledger → SettlementCall → Ledger
settlement_ledger ledger call =
    cond (is_passed (settlement_verdict ledger call))
    (settled_ledger ledger call.month (settled_month ledger.n (positions_of ledger call)).balances)
    ledger

-- the transfers written
unfoldable pub settlement_list : Ledger → SettlementCall → List ℤ
settlement_list ledger call =
    cond (is_passed (settlement_verdict ledger call))
    (list_below ledger.n (money_at (settled_month ledger.n (positions_of ledger call)).transfers))
    call.transfers

-- what the open call promises, for every ledger and every call: verdict with its number and values, ledger and written
-- list
pub record SettlementPromise (ledger : Ledger) (call : SettlementCall) (verdict : Verdict) (next : Ledger)
    (list : List ℤ) : Type 0 where
  pub judged : Judged verdict (settlement_checks ledger call)
  pub booked : next ≡ settlement_ledger ledger call
  pub listed : list ≡ settlement_list ledger call

-- distributor i of an accepted settlement "pays or receives in full": its balance is zero in the ledger handed back,
-- and its transfer is its position with the sign turned
pub record SettledInFull (ledger : Ledger) (call : SettlementCall) (next : Ledger) (list : List ℤ) (i : ℕ) :
    Type 0 where
  pub cleared : money_at next.balances i ≡ pos 0
  pub turned : get_or list i (pos 0) ≡ neg_ℤ (money_at (positions_of ledger call) i)
