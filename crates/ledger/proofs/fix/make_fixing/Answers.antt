-- What is promised of either answer; a fixing is written and booked.
use Rattle.std.specs.Prelude.{option_copied}
use Rattle.ledger.specs.Fix.{FixingCall, lent_call, price_list, average_power_list}
use Rattle.ledger.proofs.SoundLaws.{sound_few}
use Rattle.ledger.proofs.FixLaws.{prices_length, power_length, made_passed, made_small, fixed_accepted, fixed_refused}
use native.Mathlib.Omega.{arith}
use Rattle.ledger.proofs.fix.make_fixing.Goals as goal
use Rattle.ledger.proofs.fix.make_fixing.Goals.{Start}

abbrev call : Start → FixingCall
call s =
    lent_call s.args.input.numbers s.args.input.series.now s.args.input.lines.now s.args.input.sectors.now
    (option_copied s.args.input.in_force) s.args.prices.now s.args.power.now

pub write_prices-requires : goal.write_prices-requires
write_prices-requires c =
    let l = call (goal.at.write_prices-requires c).Start in
    let p = made_passed _ l _ c.in-Ok.ensures in
    record {
      few = omega (arith, sound_few _ p.whole, prices_length c.args.ledger l p.lengths);
      small = made_small _ l _ c.in-Ok.ensures;
    }

pub write_power-requires : goal.write_power-requires
write_power-requires c =
    let l = call (goal.at.write_power-requires c).Start in
    let p = made_passed _ l _ c.in-Ok.ensures in
    omega (arith, sound_few _ p.whole, power_length c.args.ledger l p.lengths)

pub returns-in-Ok : goal.returns-in-Ok
unfolding price_list average_power_list
returns-in-Ok c =
    let l = call (goal.at.returns-in-Ok c).Start in
    let p = made_passed _ l _ c.in-Ok.ensures in
    rw c.accepted.ensures
    (fixed_accepted _ l _ c.in-Ok.ensures _ _ _ c.book_fixing.ensures
    (rw (prices_length c.args.ledger l p.lengths) at c.write_prices.ensures)
    (rw (power_length c.args.ledger l p.lengths) at c.write_power.ensures))

pub returns-in-Err : goal.returns-in-Err
returns-in-Err c = rw c.refused.ensures (fixed_refused _ (call (goal.at.returns-in-Err c).Start) _ c.in-Err.ensures)
