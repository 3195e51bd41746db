-- What is promised of either answer; a settled month is written and booked.
use native.Mathlib.Omega.{arith}
use Rattle.ledger.specs.Settle.{SettlementCall, settlement_call_of}
use Rattle.ledger.proofs.SoundLaws.{sound_few, sound_counts}
use Rattle.ledger.proofs.SettleLaws.{transfers_length, month_refused, month_passed, month_settled}
use Rattle.ledger.proofs.settle.settle.Goals as goal
use Rattle.ledger.proofs.settle.settle.Goals.{Start}

abbrev call : Start → SettlementCall
call s = settlement_call_of s.args.month s.args.readings.now s.args.losses.now s.args.transfers.now

pub write_transfers-requires : goal.write_transfers-requires
write_transfers-requires c =
    let l = call (goal.at.write_transfers-requires c).Start in
    let p = month_passed _ l _ c.in-Ok.ensures in
    omega (arith, sound_few _ p.whole, transfers_length c.args.ledger l p.whole p.lengths)

pub book_month-requires : goal.book_month-requires
book_month-requires c =
    sound_counts _ (month_passed _ (call (goal.at.book_month-requires c).Start) _ c.in-Ok.ensures).whole

pub returns-in-Ok : goal.returns-in-Ok
returns-in-Ok c =
    let l = call (goal.at.returns-in-Ok c).Start in
    let p = month_passed _ l _ c.in-Ok.ensures in
    month_settled _ l _ c.in-Ok.ensures _ _ c.book_month.ensures
    (rw (transfers_length c.args.ledger l p.whole p.lengths) at c.write_transfers.ensures)

pub returns-in-Err : goal.returns-in-Err
returns-in-Err c = rw c.refused.ensures (month_refused _ (call (goal.at.returns-in-Err c).Start) _ c.in-Err.ensures)
