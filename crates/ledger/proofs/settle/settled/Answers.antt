-- The checks in their order; a month that passes them is settled.
use mathlib.Core.Path.{sym}
use borrow.Author.Tests.{not-true, not-false}
use Rattle.numbers.specs.Checks.{verdict_of}
use Rattle.settlement.proofs.MonthLaws.{positions_within}
use Rattle.ledger.specs.Settle.{SettlementCall, settlement_call_of, positions_of, settlement_checks, settlement_verdict}
use Rattle.ledger.specs.Settle.{settled_answer}
use Rattle.ledger.proofs.SoundLaws.{sound_few, sound_last, sound_balances}
use Rattle.ledger.proofs.SettleLaws.{right_lists, billed_lists}
use Rattle.ledger.proofs.settle.settled.Goals as goal
use Rattle.ledger.proofs.settle.settled.Goals.{Start}

abbrev call : Start → SettlementCall
call s = settlement_call_of s.args.month s.args.readings.now s.args.losses.now s.args.transfers.now

pub returns-then-not-is_sound : goal.returns-then-not-is_sound
unfolding settled_answer settlement_verdict settlement_checks verdict_of
returns-then-not-is_sound c = rw (← c.if-not-is_sound.ensures)

pub lengths_right-requires : goal.lengths_right-requires
lengths_right-requires c = sound_few _ (sym c.if-not-is_sound.ensures)

pub returns-then-not-lengths_right : goal.returns-then-not-lengths_right
unfolding settled_answer settlement_verdict settlement_checks verdict_of
returns-then-not-lengths_right c = rw (← c.if-not-is_sound.ensures, ← c.if-not-lengths_right.ensures)

pub in_turn-requires : goal.in_turn-requires
in_turn-requires c = sound_last _ (sym c.if-not-is_sound.ensures)

pub returns-then-not-in_turn : goal.returns-then-not-in_turn
unfolding settled_answer settlement_verdict settlement_checks verdict_of
returns-then-not-in_turn c =
    rw (← c.if-not-is_sound.ensures, ← c.if-not-lengths_right.ensures, ← c.if-not-in_turn.ensures)

pub returns-then-not-ledger : goal.returns-then-not-ledger
unfolding settled_answer settlement_verdict settlement_checks verdict_of
returns-then-not-ledger c =
    rw (
      ← c.if-not-is_sound.ensures,
      ← c.if-not-lengths_right.ensures,
      ← c.if-not-in_turn.ensures,
      not-true _ c.if-not-ledger.true,
    )

pub billing_in_range-requires : goal.billing_in_range-requires
billing_in_range-requires c =
    right_lists _ (call (goal.at.billing_in_range-requires c).Start) (sym c.if-not-is_sound.ensures)
    (sym c.if-not-lengths_right.ensures)

pub returns-then-not-billing_in_range : goal.returns-then-not-billing_in_range
unfolding settled_answer settlement_verdict settlement_checks verdict_of
returns-then-not-billing_in_range c =
    rw (
      ← c.if-not-is_sound.ensures,
      ← c.if-not-lengths_right.ensures,
      ← c.if-not-in_turn.ensures,
      ← c.billed_under-force.ensures,
      ← c.if-not-billing_in_range.ensures,
      not-false _ c.if-not-ledger.false,
    )

pub positions-positions-requires : goal.positions-positions-requires
positions-positions-requires c =
    record {
      within = sound_balances _ (sym c.if-not-is_sound.ensures);
      billed =
          rw c.billed_under-force.ensures
          (billed_lists _ (call (goal.at.positions-positions-requires c).Start) (sym c.if-not-is_sound.ensures)
          (sym c.if-not-lengths_right.ensures)
          (sym (rw c.billed_under-force.ensures at c.if-not-billing_in_range.ensures)));
    }

pub positions_in_range-requires : goal.positions_in_range-requires
positions_in_range-requires c = sound_few _ (sym c.if-not-is_sound.ensures)

pub returns-then-not-positions_in_range : goal.returns-then-not-positions_in_range
unfolding settled_answer settlement_verdict settlement_checks verdict_of positions_of
returns-then-not-positions_in_range c =
    rw (
      ← c.if-not-is_sound.ensures,
      ← c.if-not-lengths_right.ensures,
      ← c.if-not-in_turn.ensures,
      ← c.billed_under-force.ensures,
      ← c.if-not-billing_in_range.ensures,
      ← c.positions-positions.ensures,
      ← c.if-not-positions_in_range.ensures,
      not-false _ c.if-not-ledger.false,
    )

pub settle_positions-requires : goal.settle_positions-requires
settle_positions-requires c =
    positions_within _ _ (sound_few _ (sym c.if-not-is_sound.ensures)) (sym c.if-not-positions_in_range.ensures)

pub returns : goal.returns
unfolding settled_answer settlement_verdict settlement_checks verdict_of positions_of
returns c =
    rw (
      ← c.if-not-is_sound.ensures,
      ← c.if-not-lengths_right.ensures,
      ← c.if-not-in_turn.ensures,
      ← c.billed_under-force.ensures,
      ← c.if-not-billing_in_range.ensures,
      ← c.positions-positions.ensures,
      ← c.if-not-positions_in_range.ensures,
      c.settle_positions.ensures,
      not-false _ c.if-not-ledger.false,
    )
