-- Laws of the open call of opening: what it promises where it opens and where it refuses. Assumes nothing.
use mathlib.Core.Path.{◌≡◌, refl, ◌∙◌, sym}
use mathlib.Core.Bool.{true, false}
use mathlib.Core.List.{[]}
use Prim.Native.Nat.{ℕ}
use Rattle.numbers.specs.Checks.{verdict_of}
use Rattle.numbers.specs.Sizes.{most_distributors}
use Rattle.numbers.specs.Units.{between}
use Rattle.numbers.specs.declared.refusal.Refusal.TheVariants.{WrongCount}
use Rattle.std.specs.Prelude.{Ok, Err}
use Rattle.numbers.proofs.CheckLaws.{FirstPass, AllTold, passes, check_told, verdict_passed, refused_unless, judged}
use Rattle.ledger.specs.Ledger.{empty_ledger, opening_checks, opening_verdict, opening_ledger, OpeningPromise}
use Rattle.ledger.specs.declared.ledger.Ledger.{Ledger}

module _ (n : ℕ) (next : Ledger) where
  opening_told : AllTold (opening_checks n)
  unfolding AllTold opening_checks
  opening_told = (check_told 1 (between 1 most_distributors n) WrongCount refl, tt)

  pub opening_accepted : between 1 most_distributors n ≡ true → next ≡ empty_ledger n → OpeningPromise n (Ok tt) next
  unfolding opening_ledger opening_verdict opening_checks FirstPass
  opening_accepted h e =
      let v : verdict_of (opening_checks n) ≡ Ok tt = verdict_passed (opening_checks n) (passes WrongCount h, tt) in
      record { judged = judged (opening_checks n) opening_told (Ok _) (sym v); opened = e ∙ rw v }

  pub opening_refused : between 1 most_distributors n ≡ false → next ≡ empty_ledger 0 →
      OpeningPromise n (Err WrongCount) next
  unfolding opening_ledger opening_verdict opening_checks FirstPass
  opening_refused h e =
      let v : verdict_of (opening_checks n) ≡ Err WrongCount = refused_unless 0 (opening_checks n) 1 _ WrongCount [] tt
      refl h in
      record { judged = judged (opening_checks n) opening_told (Err WrongCount) (sym v); opened = e ∙ rw v }
