-- The call is that of the parts, and the answer that of the call with the balances of the ledger after it.
use mathlib.Core.Path.{◌≡◌, refl, ◌∙◌}
use native.Mathlib.Omega.{arith}
use lib.IntN.{negsuc}
use lib.ListN.{take}
use Rattle.numbers.specs.Bounded.{list_below}
use Rattle.journal.specs.Form.{number_of, parts_in, parts_below}
use Rattle.ledger.specs.Settle.{settlement_verdict}
use Rattle.commands.specs.Replay.{unwritten, settlement_call, settlement_text}
use Rattle.commands.proofs.LentLaws.{first_lent}
use Rattle.commands.proofs.answer.run_settle.Goals as goal
use Rattle.commands.proofs.answer.run_settle.Goals.{After-settle-outcome}

-- what the transfers' list holds when it is lent
lent : (d : After-settle-outcome) → take d.number_of.result d.unwritten-room.result ≡ unwritten (number_of d.args.parts.now 3)
unfolding unwritten
lent d = first_lent (negsuc 0) d.unwritten-room.ensures _ d.number_of.ensures (d.requires.bounded 3 (omega arith))

pub returns-clause-booked : goal.returns-clause-booked
unfolding settlement_call parts_in parts_below list_below
returns-clause-booked c =
    rw (← c.words_of-readings.ensures, ← c.words_of-losses.ensures, ← lent (goal.at.returns-clause-booked c).After-settle-outcome, ← c.number_of-2.ensures)
    c.settle-outcome.ensures.booked

pub returns-clause-answered : goal.returns-clause-answered
unfolding settlement_call settlement_text settlement_verdict parts_in parts_below list_below
returns-clause-answered c =
    let promise = c.settle-outcome.ensures in
    rw (← c.words_of-readings.ensures, ← c.words_of-losses.ensures, ← lent (goal.at.returns-clause-answered c).After-settle-outcome, ← c.number_of-2.ensures)
    (c.write_settled.ensures ∙ rw (promise.listed, promise.booked, promise.judged.answered) refl)
