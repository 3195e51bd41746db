-- Laws of the open call of settlement: what a month that is due is worked from, and what is promised where the call
-- refuses and where it settles; an accepted month's balances and transfers one by one. Assumes nothing.
use mathlib.Core.Path.{◌≡◌, refl, sym, ◌∙◌, ap}
use mathlib.Core.Bool.{true, false}
use mathlib.Core.List.{List, []}
use Prim.Native.Nat.{ℕ, ◌*◌, ◌<◌}
use native.Mathlib.Omega.{arith}
use lib.Dec.{eqb}
use lib.ListN.{length, get_or}
use lib.IntN.{ℤ, pos}
use borrow.Author.Tests.{eqb-true}
use Rattle.numbers.specs.Bounded.{list_below}
use Rattle.numbers.specs.Refusal.{Verdict, is_passed}
use Rattle.numbers.specs.Sizes.{most_distributors}
use Rattle.numbers.specs.declared.refusal.Refusal.{Refusal}
use Rattle.numbers.specs.declared.units.Pesos.{Pesos}
use Rattle.numbers.specs.declared.refusal.Refusal.TheVariants.{Unsound, WrongLength, OutOfTurn, NoFixing, WrongReading}
use Rattle.numbers.specs.declared.refusal.Refusal.TheVariants.{PositionBeyond}
use Rattle.std.specs.Prelude.{Ok, Err}
use Rattle.numbers.specs.Checks.{verdict_of}
use Rattle.numbers.proofs.BoolLaws.{and_three}
use Rattle.numbers.proofs.ListLaws.{list_at}
use Rattle.numbers.proofs.CheckLaws.{AllTold, FirstPass, passes, refused_unless, check_told, judged}
use Rattle.numbers.proofs.CheckLaws.{answer_passed, answer_refused}
use Rattle.fixing.specs.declared.sector.SectorCharges.{SectorCharges}
use Rattle.settlement.specs.Amount.{billing_in_range}
use Rattle.settlement.specs.Required.{BillingLists, Billed}
use Rattle.settlement.specs.Settlement.{positions_in_range, transfer, new_balance}
use Rattle.settlement.specs.Month.{money_at, settled_month}
use Rattle.settlement.specs.declared.month.SettledMonth.{SettledMonth}
use Rattle.settlement.proofs.AmountLaws.{billing_facts}
use Rattle.settlement.proofs.MonthLaws.{money_at_lem}
use Rattle.ledger.specs.Ledger.{any_settled, next_month, settled_ledger}
use Rattle.ledger.specs.Billed.{billed_under}
use Rattle.ledger.specs.Sound.{sound}
use Rattle.ledger.specs.Turn.{settlement_turn}
use Rattle.ledger.specs.Settle.{SettlementCall, settlement_lengths, billing_lengths, positions_of, settlement_checks}
use Rattle.ledger.specs.Settle.{settlement_verdict, settled_answer, settlement_ledger, settlement_list}
use Rattle.ledger.specs.Settle.{SettlementPromise}
use Rattle.ledger.specs.declared.ledger.Ledger.{Ledger}
use Rattle.ledger.proofs.SoundLaws.{sound_few}
use Rattle.ledger.proofs.CallLaws.{SettlementPassed, settlement_passed}
use Rattle.ledger.proofs.BilledLaws.{sound_charges}

module _ (ledger : Ledger) (call : SettlementCall) where
  -- every verdict has the number and values of the checks
  pub settlement_told : AllTold (settlement_checks ledger call)
  unfolding AllTold settlement_checks
  settlement_told = (
    check_told 2 (sound ledger) Unsound refl,
    (
      check_told 3 (billing_lengths ledger.n call) WrongLength refl,
      (
        check_told 4 (settlement_turn (any_settled ledger) (next_month ledger) ledger.fixed ledger.month
            call.month) OutOfTurn refl,
        (
          check_told 5 ledger.fixed NoFixing refl,
          (
            check_told 12 (billing_in_range ledger.n (billed_under ledger call.month).present call.readings
                call.losses) WrongReading refl,
            (check_told 13 (positions_in_range ledger.n (money_at (positions_of ledger call))) PositionBeyond refl, tt),
          ),
        ),
      ),
    ),
  )

  -- what is promised of the verdict, of the ledger handed back and of the list
  settlement_promised : (verdict : Verdict) (next : Ledger) (list : List ℤ) → verdict ≡ settlement_verdict ledger call →
      next ≡ settlement_ledger ledger call → list ≡ settlement_list ledger call →
      SettlementPromise ledger call verdict next list
  unfolding settlement_verdict
  settlement_promised verdict next list v e l =
      record {
        judged = judged (settlement_checks ledger call) settlement_told verdict v;
        booked = e;
        listed = l;
      }

  pub month_refused : (refusal : Refusal) → Err refusal ≡ settled_answer ledger call →
      SettlementPromise ledger call (Err refusal) ledger call.transfers
  unfolding settlement_ledger settlement_list settled_answer
  month_refused refusal h =
      let v = answer_refused (settled_month ledger.n (positions_of ledger call)) refusal
      (settlement_verdict ledger call) (sym h) in
      settlement_promised (Err refusal) ledger call.transfers (sym v) (rw v) (rw v)

  module _ (settled : SettledMonth) (h : Ok settled ≡ settled_answer ledger call) where
    worked : (settlement_verdict ledger call ≡ Ok tt) × (settled ≡ settled_month ledger.n (positions_of ledger call))
    unfolding settled_answer
    worked =
        answer_passed (settled_month ledger.n (positions_of ledger call)) settled (settlement_verdict ledger call)
        (sym h)

    pub month_passed : SettlementPassed ledger call
    month_passed = settlement_passed ledger call (ap is_passed worked.0)

    pub month_settled : (next : Ledger) (list : List ℤ) → next ≡ settled_ledger ledger call.month settled.balances →
        list ≡ list_below ledger.n (money_at settled.transfers) → SettlementPromise ledger call (Ok tt) next list
    unfolding settlement_ledger settlement_list
    month_settled next list e l =
        settlement_promised (Ok tt) next list (sym worked.0)
        (e ∙ ap (λ (s : SettledMonth). settled_ledger ledger call.month s.balances) worked.1 ∙ rw worked.0)
        (l ∙ ap (λ (s : SettledMonth). list_below ledger.n (money_at s.transfers)) worked.1 ∙ rw worked.0)

  -- the lists of a call that passed its first two checks
  module _ (whole : sound ledger ≡ true) (lengths : billing_lengths ledger.n call ≡ true) where
    right_lengths : (eqb (length call.readings) (ledger.n * 32) ≡ true)
        × (eqb (length call.losses) (ledger.n * 2) ≡ true)
        × (eqb (length call.transfers) ledger.n ≡ true)
    unfolding settlement_lengths
    right_lengths =
        and_three (eqb (length call.readings) (ledger.n * 32)) (eqb (length call.losses) (ledger.n * 2))
        (eqb (length call.transfers) ledger.n) lengths

    pub right_lists : BillingLists ledger.n call.readings call.losses
    right_lists =
        record {
          few = sound_few ledger whole;
          read = eqb-true _ _ right_lengths.0;
          lost = eqb-true _ _ right_lengths.1;
        }

    pub transfers_length : length call.transfers ≡ ledger.n
    transfers_length = eqb-true _ _ right_lengths.2

    abbrev under : SectorCharges
    under = billed_under ledger call.month

    pub billed_lists : billing_in_range ledger.n under.present call.readings call.losses ≡ true →
        Billed ledger.n under.charges call.readings call.losses
    billed_lists billed =
        record {
          billed =
              record {
                lists = right_lists;
                facts = billing_facts ledger.n under.present call.readings call.losses billed;
              };
          bounded = sound_charges ledger whole call.month;
        }

    module _ (turn : settlement_turn (any_settled ledger) (next_month ledger) ledger.fixed ledger.month call.month ≡ true)
        (in_force : ledger.fixed ≡ true) where
      -- the checks that a month which is due has passed
      pub first_due : FirstPass 4 (settlement_checks ledger call)
      unfolding FirstPass settlement_checks
      first_due = (
        passes Unsound whole,
        (passes WrongLength lengths, (passes OutOfTurn turn, (passes NoFixing in_force, tt))),
      )

      module _ (billed : billing_in_range ledger.n under.present call.readings call.losses ≡ true) where
        pub first_billed : FirstPass 5 (settlement_checks ledger call)
        unfolding FirstPass settlement_checks
        first_billed = (
          passes Unsound whole,
          (
            passes WrongLength lengths,
            (passes OutOfTurn turn, (passes NoFixing in_force, (passes WrongReading billed, tt))),
          ),
        )

        pub position_beyond : (positions : List Pesos) → positions ≡ positions_of ledger call →
            positions_in_range ledger.n (money_at positions) ≡ false →
            verdict_of (settlement_checks ledger call) ≡ Err PositionBeyond
        unfolding FirstPass settlement_checks
        position_beyond positions e f =
            refused_unless 5 (settlement_checks ledger call) 13 _ PositionBeyond [] first_billed refl
            (ap (λ (l : List Pesos). positions_in_range ledger.n (money_at l)) (sym e) ∙ f)

-- what an accepted settlement hands back for distributor i: the balance and the transfer that the definitions settle
module _ (ledger next : Ledger) (call : SettlementCall) (list : List ℤ)
    (promise : SettlementPromise ledger call (Ok tt) next list) (i : ℕ) (p : i < ledger.n) where
  abbrev settled : SettledMonth
  settled = settled_month ledger.n (positions_of ledger call)

  passed : settlement_verdict ledger call ≡ Ok tt
  unfolding settlement_verdict
  passed = sym promise.judged.answered

  inside : i < most_distributors
  inside =
      let few = sound_few ledger (settlement_passed ledger call (ap is_passed passed)).whole in
      omega (arith, few)

  pub settled_balance : money_at next.balances i ≡ new_balance ledger.n (money_at (positions_of ledger call)) i
  unfolding settlement_ledger settled_ledger settled_month
  settled_balance =
      let booked : next.balances ≡ settled.balances = ap (λ (l : Ledger). l.balances) (rw passed at
      promise.booked) in
      ap (λ l. money_at l i) booked
      ∙ money_at_lem (new_balance ledger.n (money_at (positions_of ledger call))) ledger.n i p inside

  pub settled_transfer : get_or list i (pos 0) ≡ transfer ledger.n (money_at (positions_of ledger call)) i
  unfolding settlement_list settled_month
  settled_transfer =
      let listed : list ≡ list_below ledger.n (money_at settled.transfers) = rw passed at promise.listed in
      ap (λ l. get_or l i (pos 0)) listed
      ∙ list_at (money_at settled.transfers) ledger.n (pos 0) i p
      ∙ money_at_lem (transfer ledger.n (money_at (positions_of ledger call))) ledger.n i p inside
