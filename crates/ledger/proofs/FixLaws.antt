-- Laws of the open call of fixing: what it promises where it refuses and where it accepts. Assumes nothing.
use mathlib.Core.Path.{◌≡◌, refl, sym, ◌∙◌, ap}
use mathlib.Core.Bool.{true}
use mathlib.Core.List.{List}
use Prim.Native.Nat.{ℕ, ◌+◌, ◌*◌, ◌/◌, ◌%◌, ◌<◌}
use native.Mathlib.Omega.{arith}
use lib.ListN.{get_or, length}
use lib.IntN.{ℤ, pos}
use lib.Dec.{eqb}
use borrow.Author.Tests.{eqb-true, eq-eqb, lt-ltb}
use Rattle.numbers.specs.Bounded.{list_below}
use Rattle.numbers.specs.Refusal.{Answered, Verdict, answer_by, verdict_answered, is_passed}
use Rattle.numbers.specs.declared.refusal.Refusal.{Refusal}
use Rattle.numbers.specs.declared.refusal.Refusal.TheVariants.{Unsound, WrongLength, OutOfTurn, WrongDay}
use Rattle.std.specs.Prelude.{Ok, Err}
use Rattle.numbers.specs.Units.{no_price}
use Rattle.numbers.specs.declared.units.PesoPrice.{PesoPrice}
use Rattle.numbers.proofs.ListLaws.{list_at}
use Rattle.numbers.proofs.CheckLaws.{AllTold, check_told, verdict_told, passed_number, is_passed_lem}
use Rattle.numbers.proofs.CheckLaws.{answer_passed, answer_refused}
use Rattle.fixing.specs.Input.{input_distributors}
use Rattle.fixing.specs.Required.{RightLengths}
use Rattle.fixing.specs.Prices.{fixed_prices, returned_values}
use Rattle.fixing.specs.Fixing.{accepted_fixing, worked_fixing}
use Rattle.fixing.specs.declared.fix.Fixing.{Fixing}
use Rattle.fixing.proofs.LimitLaws.{rounds_few}
use Rattle.fixing.proofs.VerdictLaws.{input_told}
use Rattle.ledger.specs.Calendar.{day_allowed}
use Rattle.ledger.specs.Ledger.{any_settled, next_month, older_stands, fixed_ledger}
use Rattle.ledger.specs.Sound.{sound}
use Rattle.ledger.specs.Turn.{fixing_turn}
use Rattle.ledger.specs.Required.{PricesSmall}
use Rattle.ledger.specs.Fix.{FixingCall, call_lengths, fixing_checks, fixing_verdict, worked_answer, accepted_values}
use Rattle.ledger.specs.Fix.{FixingAnswer, fixing_answer, fixing_answered, rounds_below, fixing_ledger, price_list}
use Rattle.ledger.specs.Fix.{fixing_list, price_part, price_word, average_power_list, fixing_power_list}
use Rattle.ledger.specs.Fix.{FixingPromise, HandedBack, HandsBack, IsAccepted}
use Rattle.ledger.specs.declared.ledger.Ledger.{Ledger}
use Rattle.ledger.proofs.SoundLaws.{sound_some, sound_few}
use Rattle.ledger.proofs.PassedLaws.{prices_small}
use Rattle.ledger.proofs.CallLaws.{FixingPassed, fixing_passed, length_parts, right_lengths, passed_range}

-- the three words of distributor i
module _ (n : ℕ) (averages finals : List PesoPrice) (charges : List ℤ) (i : ℕ) (p : i < n) where
  pub word_at_lem : (j k : ℕ) → j ≡ i * 3 + k → k < 3 →
      get_or (list_below (n * 3) (price_word averages finals charges)) j (pos 0) ≡ price_part (get_or averages i no_price).0
      (get_or finals i no_price).0 (get_or charges i (pos 0)) k
  unfolding price_word
  word_at_lem j k e q =
      let whole : j / 3 ≡ i = omega arith in
      let part : j % 3 ≡ k = omega arith in
      list_at (price_word averages finals charges) (n * 3) (pos 0) j (omega arith) ∙ rw (whole, part)

module _ (ledger : Ledger) (call : FixingCall) where
  -- the lent lists' lengths by cause 3
  pub prices_length : call_lengths ledger.n call ≡ true → length call.prices ≡ ledger.n * 3
  prices_length h = eqb-true _ _ (length_parts ledger.n call h).3

  pub power_length : call_lengths ledger.n call ≡ true → length call.power ≡ ledger.n
  power_length h = eqb-true _ _ (length_parts ledger.n call h).4

  -- every answer has the number and values of the checks
  pub fixing_told : AllTold (fixing_checks ledger call)
  unfolding AllTold fixing_checks
  fixing_told = (
    check_told 2 (sound ledger) Unsound refl,
    (
      check_told 3 (call_lengths ledger.n call) WrongLength refl,
      (
        check_told 4 (fixing_turn (any_settled ledger) (next_month ledger) call.input.numbers.month) OutOfTurn refl,
        (
          check_told 16 (day_allowed call.input.numbers.month call.input.numbers.day
              (older_stands ledger call.input.numbers.month)) WrongDay refl,
          input_told ledger.n call.input,
        ),
      ),
    ),
  )

  pub answer_told : fixing_answered (fixing_answer ledger call) ≡ verdict_answered
      (returned_values (input_distributors ledger.n call.input)) (fixing_verdict ledger call)
  unfolding fixing_answer accepted_values worked_fixing accepted_fixing fixed_prices returned_values input_distributors
  answer_told = go (fixing_verdict ledger call)
    where
      go : (v : Verdict) →
          fixing_answered (answer_by v (accepted_values (worked_fixing ledger.n call.input).prices)) ≡ verdict_answered
          (returned_values (input_distributors ledger.n call.input)) v
      go (Ok _) = refl
      go (Err refusal) = refl

  -- what is handed back with number 0 passed every check
  pub accepted_passed : (given : HandedBack) → HandsBack ledger call given → IsAccepted given →
      fixing_verdict ledger call ≡ Ok tt
  accepted_passed given promise number =
      is_passed_lem (fixing_verdict ledger call)
      (passed_number _ (fixing_verdict ledger call)
      ∙ ap (λ (x : Answered). eqb x.number 0) (sym (ap fixing_answered promise.answered ∙ answer_told))
      ∙ eq-eqb _ 0 number)

  -- what is promised of the answer, of the ledger handed back and of both lists
  fixing_promised : (answer : FixingAnswer) (next : Ledger) (list : List ℤ) (power : List ℕ) →
      answer ≡ fixing_answer ledger call → rounds_below ledger.n answer ≡ true → next ≡ fixing_ledger ledger call →
      list ≡ fixing_list ledger call → power ≡ fixing_power_list ledger call →
      FixingPromise ledger call answer next list power
  unfolding fixing_verdict
  fixing_promised answer next list power told few e l p =
      record {
        answered = told;
        numbered = ap fixing_answered told ∙ answer_told ∙ verdict_told (fixing_checks ledger call) _ fixing_told;
        few = few;
        booked = e;
        listed = l;
        power_listed = p;
      }

  -- of a refusal: ledger and lists as they were
  pub fixed_refused : (refusal : Refusal) → Err refusal ≡ worked_answer ledger call →
      FixingPromise ledger call (Err refusal) ledger call.prices call.power
  unfolding fixing_ledger fixing_list fixing_power_list fixing_answer worked_answer
  fixed_refused refusal h =
      let v = answer_refused (worked_fixing ledger.n call.input) refusal (fixing_verdict ledger call) (sym h) in
      fixing_promised (Err refusal) ledger call.prices call.power (rw v) refl (rw v) (rw v) (rw v)

  module _ (fixing : Fixing) (h : Ok fixing ≡ worked_answer ledger call) where
    worked : (fixing_verdict ledger call ≡ Ok tt) × (fixing ≡ worked_fixing ledger.n call.input)
    unfolding worked_answer
    worked = answer_passed (worked_fixing ledger.n call.input) fixing (fixing_verdict ledger call) (sym h)

    pub made_passed : FixingPassed ledger call
    made_passed = fixing_passed ledger call (ap is_passed worked.0)

    right : RightLengths ledger.n call.input
    right =
        right_lengths ledger.n call (sound_some ledger made_passed.whole) (sound_few ledger made_passed.whole)
        made_passed.lengths

    -- its prices fit their words
    pub made_small : PricesSmall fixing.averages fixing.prices.finals
    made_small = prices_small ledger.n call.input right made_passed.passed fixing worked.1

    few : fixing.prices.rounds < ledger.n
    unfolding worked_fixing accepted_fixing fixed_prices input_distributors
    few =
        rw worked.1
        (rounds_few (input_distributors ledger.n call.input) (passed_range ledger.n call
        (sound_some ledger made_passed.whole) (sound_few ledger made_passed.whole) made_passed.lengths
        made_passed.passed))

    -- what is promised of an accepted fixing
    pub fixed_accepted : (next : Ledger) (list : List ℤ) (power : List ℕ) →
        next ≡ fixed_ledger ledger call.input.numbers fixing.sectors → list ≡ price_list ledger.n fixing →
        power ≡ average_power_list ledger.n fixing →
        FixingPromise ledger call (Ok (accepted_values fixing.prices)) next list power
    unfolding fixing_ledger fixing_list fixing_power_list fixing_answer accepted_values
    fixed_accepted next list power e l p =
        fixing_promised (Ok (accepted_values fixing.prices)) next list power
        (ap (λ (f : Fixing). Ok (accepted_values f.prices)) worked.1 ∙ rw worked.0)
        (lt-ltb _ _ few)
        (e ∙ ap (λ (f : Fixing). fixed_ledger ledger call.input.numbers f.sectors) worked.1 ∙ rw worked.0)
        (l ∙ ap (price_list ledger.n) worked.1 ∙ rw worked.0)
        (p ∙ ap (average_power_list ledger.n) worked.1 ∙ rw worked.0)
