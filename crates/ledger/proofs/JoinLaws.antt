-- Laws of the open call of joining: what it promises where it refuses and where it accepts. Assumes nothing.
use mathlib.Core.Path.{◌≡◌, refl, sym, ◌∙◌}
use lib.Dec.{ltb}
use Rattle.numbers.specs.Refusal.{Verdict}
use Rattle.numbers.specs.Sizes.{most_distributors}
use Rattle.numbers.specs.declared.refusal.Refusal.{Refusal}
use Rattle.numbers.specs.declared.refusal.Refusal.TheVariants.{Unsound, LedgerFull}
use Rattle.std.specs.Prelude.{Ok, Err}
use Rattle.numbers.proofs.CheckLaws.{AllTold, check_told, judged}
use Rattle.numbers.proofs.CheckLaws.{answer_passed, answer_refused}
use Rattle.ledger.specs.Ledger.{joined_ledger}
use Rattle.ledger.specs.Sound.{sound}
use Rattle.ledger.specs.Join.{join_checks, join_verdict, joined_answer, join_ledger, JoinPromise}
use Rattle.ledger.specs.declared.ledger.Ledger.{Ledger}

module _ (ledger : Ledger) where
  pub join_told : AllTold (join_checks ledger)
  unfolding AllTold join_checks
  join_told = (
    check_told 2 (sound ledger) Unsound refl,
    (check_told 15 (ltb ledger.n most_distributors) LedgerFull refl, tt),
  )

  -- what is promised of the verdict and of the ledger handed back
  join_promised : (verdict : Verdict) (next : Ledger) → verdict ≡ join_verdict ledger → next ≡ join_ledger ledger →
      JoinPromise ledger verdict next
  unfolding join_verdict
  join_promised verdict next v e = record { judged = judged (join_checks ledger) join_told verdict v; booked = e }

  pub join_refused : (refusal : Refusal) → Err refusal ≡ joined_answer ledger → JoinPromise ledger (Err refusal) ledger
  unfolding join_ledger joined_answer
  join_refused refusal h =
      let v = answer_refused (joined_ledger ledger) refusal (join_verdict ledger) (sym h) in
      join_promised (Err refusal) ledger (sym v) (rw v)

  pub join_accepted : (next : Ledger) → Ok next ≡ joined_answer ledger → JoinPromise ledger (Ok tt) next
  unfolding join_ledger joined_answer
  join_accepted next h =
      let v = answer_passed (joined_ledger ledger) next (join_verdict ledger) (sym h) in
      join_promised (Ok tt) next (sym v.0) (v.1 ∙ rw v.0)
