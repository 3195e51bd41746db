-- The open call of joining (W-205 of document 02): its checks in their order, its answer and the ledger handed back.
-- Assumes nothing.
use Rattle.std.specs.Prelude.{◌≡◌, Result, cond, List, [], ◌∷◌, ltb}
use Rattle.numbers.specs.Checks.{Check, check, verdict_of, Judged}
use Rattle.numbers.specs.Sizes.{most_distributors}
use Rattle.numbers.specs.declared.refusal.Refusal.TheVariants.{Unsound, LedgerFull}
use Rattle.numbers.specs.Refusal.{Verdict, answer_by, is_passed}
use Rattle.numbers.specs.declared.refusal.Refusal.{Refusal}
use Rattle.ledger.specs.Ledger.{joined_ledger}
use Rattle.ledger.specs.Sound.{sound}
use Rattle.ledger.specs.declared.ledger.Ledger.{Ledger}

-- the checks of a join in their order: unsound ledger, "15 when the ledger already has 40, checked after 2"
unfoldable pub join_checks : Ledger → List Check
join_checks ledger = check 2 (sound ledger) Unsound ∷ check 15 (ltb ledger.n most_distributors) LedgerFull ∷ []

unfoldable pub join_verdict : Ledger → Verdict
join_verdict ledger = verdict_of (join_checks ledger)

-- the ledger with one distributor more, or why it is refused
unfoldable pub joined_answer : Ledger → Result Ledger Refusal
joined_answer ledger = answer_by (join_verdict ledger) (joined_ledger ledger)

-- the ledger handed back: a refused one unchanged
unfoldable pub join_ledger : Ledger → Ledger
join_ledger ledger = cond (is_passed (join_verdict ledger)) (joined_ledger ledger) ledger

-- what the open call promises, for every ledger: verdict with its number and values, and ledger
pub record JoinPromise (ledger : Ledger) (verdict : Verdict) (next : Ledger) : Type 0 where
  pub judged : Judged verdict (join_checks ledger)
  pub booked : next ≡ join_ledger ledger
