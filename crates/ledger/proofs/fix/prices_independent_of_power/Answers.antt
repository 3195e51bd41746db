-- What each call hands back is worked from the parts of its fixing that are worked from energy.
use mathlib.Core.Path.{◌≡◌, sym, ◌∙◌, ap, ap₂}
use Rattle.std.specs.Prelude.{Ok}
use Rattle.fixing.specs.Fixing.{worked_fixing}
use Rattle.fixing.proofs.IndependenceLaws.{fixing_same}
use Rattle.ledger.specs.Ledger.{fixed_ledger}
use Rattle.ledger.specs.Fix.{FixingCall, fixing_verdict, accepted_values, fixing_answer}
use Rattle.ledger.specs.Fix.{fixing_ledger, price_list, fixing_list, HandedBack, FixingAccepted}
use Rattle.ledger.specs.declared.ledger.Ledger.{Ledger}
use Rattle.ledger.proofs.FixLaws.{accepted_passed}
use Rattle.ledger.proofs.fix.prices_independent_of_power.Goals as goal

-- an accepted call
module _ (ledger : Ledger) (call : FixingCall) (given : HandedBack) (h : FixingAccepted ledger call given) where
  verdict : fixing_verdict ledger call ≡ Ok tt
  verdict = accepted_passed ledger call given h.promise h.number

  answered : given.answer ≡ Ok (accepted_values (worked_fixing ledger.n call.input).prices)
  unfolding fixing_answer
  answered = rw verdict at h.promise.answered

  booked : given.ledger ≡ fixed_ledger ledger call.input.numbers (worked_fixing ledger.n call.input).sectors
  unfolding fixing_ledger
  booked = rw verdict at h.promise.booked

  listed : given.prices ≡ price_list ledger.n (worked_fixing ledger.n call.input)
  unfolding fixing_list
  listed = rw verdict at h.promise.listed

pub returns : goal.returns
unfolding price_list
returns c ledger one other same first second p q =
    let alike = fixing_same ledger.n one.input other.input same in
    record {
      answer =
          answered ledger one first p
          ∙ ap (λ x. Ok (accepted_values x)) alike.prices
          ∙ sym (answered ledger other second q);
      ledger =
          booked ledger one first p
          ∙ ap₂ (fixed_ledger ledger) same.numbers alike.sectors
          ∙ sym (booked ledger other second q);
      prices =
          listed ledger one first p
          ∙ rw (alike.averages, alike.prices, alike.charges) (sym (listed ledger other second q));
    }
