-- A list of calls on a ledger, each given the ledger that the one before handed back: what they leave and what they
-- answer, by the very definitions that the open calls' contracts equate with. Assumes nothing.
use Rattle.std.specs.Prelude.{List, [], ◌∷◌, ℕ}
use Rattle.numbers.specs.Refusal.{Answered, verdict_answered}
use Rattle.ledger.specs.Ledger.{opening_ledger}
use Rattle.ledger.specs.Fix.{FixingCall, fixing_answer, fixing_answered, fixing_ledger}
use Rattle.ledger.specs.Settle.{SettlementCall, settlement_verdict, settlement_ledger}
use Rattle.ledger.specs.Join.{join_verdict, join_ledger}
use Rattle.ledger.specs.declared.ledger.Ledger.{Ledger}

-- a fixing, regular or interim, or a settlement, with any arguments, or a join
pub data Call : Type 0 where
  fixing : FixingCall → Call
  settlement : SettlementCall → Call
  join : Call

-- the ledger that an opening with n hands back
unfoldable pub opened : ℕ → Ledger
opened n = opening_ledger n

unfoldable pub step : Ledger → Call → Ledger
step ledger (fixing call) = fixing_ledger ledger call
step ledger (settlement call) = settlement_ledger ledger call
step ledger join = join_ledger ledger

-- the number and values of a call's answer
unfoldable pub answer : Ledger → Call → Answered
answer ledger (fixing call) = fixing_answered (fixing_answer ledger call)
answer ledger (settlement call) = verdict_answered [] (settlement_verdict ledger call)
answer ledger join = verdict_answered [] (join_verdict ledger)

-- the ledger after a list of calls, and their answers
unfoldable pub after : Ledger → List Call → Ledger
after ledger [] = ledger
after ledger (call ∷ calls) = after (step ledger call) calls

unfoldable pub answers : Ledger → List Call → List Answered
answers ledger [] = []
answers ledger (call ∷ calls) = answer ledger call ∷ answers (step ledger call) calls
