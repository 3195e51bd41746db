-- The lists are lent unwritten, and the answer is that of the call.
use mathlib.Core.Path.{refl, ◌∙◌}
use native.Mathlib.Omega.{arith}
use lib.IntN.{negsuc}
use Rattle.answers.specs.Answer.{unwritten_word}
use Rattle.commands.specs.Replay.{unwritten, unwritten_power, fixing_call, fixing_text}
use Rattle.commands.proofs.LentLaws.{first_lent}
use Rattle.commands.proofs.answer.run_fixing.Goals as goal

pub call_fixing-outcome-requires-clause-prices : goal.call_fixing-outcome-requires-clause-prices
unfolding unwritten
call_fixing-outcome-requires-clause-prices c =
    first_lent (negsuc 0) c.unwritten-price_room.ensures _ c.number_of.ensures (c.requires.bounded 9 (omega arith))

pub call_fixing-outcome-requires-clause-power : goal.call_fixing-outcome-requires-clause-power
unfolding unwritten_power
call_fixing-outcome-requires-clause-power c =
    first_lent unwritten_word c.unwritten-power_room.ensures _ c.number_of-2.ensures (c.requires.bounded 10 (omega arith))

pub returns-clause-answered : goal.returns-clause-answered
unfolding fixing_call fixing_text
returns-clause-answered c =
    let promise = c.call_fixing-outcome.ensures in
    c.write_fixed.ensures ∙ rw (c.fixing_name.ensures, promise.listed, promise.power_listed, promise.answered) refl
