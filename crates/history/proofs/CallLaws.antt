-- One call put to the ledger that follows from a plain ledger: the checks go the same way on both. Assumes nothing.
use mathlib.Core.Path.{◌≡◌, refl, sym, ◌∙◌, ap, ap₂}
use mathlib.Core.Bool.{Bool, true, false, cond, not, ◌&&◌, ◌||◌, true≢false}
use mathlib.Core.List.{List, [], ◌∷◌}
use Rattle.std.specs.Prelude.{Option, Some, None}
use Prim.Native.Nat.{ℕ, ◌+◌, ◌≤◌, ◌<◌}
use native.Mathlib.Omega.{arith}
use lib.Dec.{ltb, eqb}
use lib.IntN.{ℤ, pos, ◌+ℤ◌}
use borrow.Author.Tests.{lt-ltb, le-ltb}
use Rattle.numbers.specs.Bounded.{filled_below}
use Rattle.numbers.specs.Refusal.{Answered, verdict_answered, is_passed}
use Rattle.numbers.specs.Checks.{Met, Check, met_unless, verdict_of, answered_or, answered_by}
use Rattle.numbers.specs.declared.refusal.Refusal.{Refusal}
use Rattle.numbers.specs.declared.refusal.Refusal.TheVariants.{Unsound, WrongLength, OutOfTurn, NoFixing, OutOfRange}
use Rattle.numbers.specs.declared.refusal.Refusal.TheVariants.{ValueTooLarge, WrongSector, NoLine, WrongReading}
use Rattle.numbers.specs.declared.refusal.Refusal.TheVariants.{PositionBeyond, NoLineMoved, LedgerFull, WrongDay}
use Rattle.numbers.specs.Sizes.{most_distributors}
use Rattle.numbers.proofs.CheckLaws.{AllTold, verdict_told, passed_number}
use Rattle.numbers.proofs.ListLaws.{filled_at, filled_past, filled_same, filled_next}
use Rattle.numbers.proofs.TestLaws.{any_same, any_wide}
use Rattle.series.specs.Series.{values_in_range}
use Rattle.supply.specs.Months.{Place, missing_at, month_check}
use Rattle.supply.specs.Price.{out_of_bounds_at, bounds_check, price_checks, table_checks}
use Rattle.fixing.specs.Prices.{returned_values}
use Rattle.fixing.specs.Sector.{sectors_allowed, no_charges}
use Rattle.fixing.specs.Input.{ranged, supplied, missing_place, beyond_line, some_moved, input_checks}
use Rattle.fixing.specs.Input.{input_distributors}
use Rattle.fixing.specs.Fixing.{accepted_fixing, worked_fixing}
use Rattle.fixing.specs.declared.fix.Fixing.{Fixing}
use Rattle.fixing.proofs.VerdictLaws.{passed_fixing}
use Rattle.settlement.specs.Amount.{billing_in_range}
use Rattle.settlement.specs.Settlement.{position_of, positions_in_range, new_balance}
use Rattle.settlement.specs.Month.{money_at, money_below, position_list, settled_month}
use Rattle.settlement.proofs.MonthLaws.{money_at_lem, money_next, money_same}
use Rattle.ledger.specs.Calendar.{day_allowed}
use Rattle.ledger.specs.Ledger.{count_at, any_settled, next_month, makes_older, stays_older, older_stands, older_beside}
use Rattle.ledger.specs.Ledger.{unfixed_ledger, fixed_ledger, raised_counts, settled_ledger, joined_ledger}
use Rattle.ledger.specs.Billed.{billed_under}
use Rattle.ledger.specs.Sound.{sound}
use Rattle.ledger.specs.Turn.{fixing_turn, settlement_turn}
use Rattle.ledger.specs.Fix.{FixingCall, call_lengths, fixing_checks, fixing_verdict, fixing_answer, fixing_answered}
use Rattle.ledger.specs.Fix.{fixing_ledger}
use Rattle.ledger.specs.Settle.{SettlementCall, billing_lengths, settlement_checks, settlement_verdict, settlement_ledger}
use Rattle.ledger.specs.Settle.{positions_of}
use Rattle.ledger.specs.Join.{join_checks, join_verdict, join_ledger}
use Rattle.ledger.proofs.SoundFacts.{sound_facts}
use Rattle.ledger.proofs.MoneyLaws.{range_same, balance_same}
use Rattle.ledger.proofs.CallLaws.{join_passed}
use Rattle.ledger.proofs.FixLaws.{fixing_told, answer_told}
use Rattle.ledger.proofs.SettleLaws.{settlement_told}
use Rattle.ledger.proofs.JoinLaws.{join_told}
use Rattle.history.specs.Run.{fixing, settlement, join}
use Rattle.history.specs.Plain.{Plain, is_held, held_month, held_force, older_for, plain_settled, plain_next}
use Rattle.history.specs.Plain.{plain_under, image}
use Rattle.history.specs.Plain.{cause, cause_at_term, cause_at_line, first_cause, fixing_causes, plain_fixing}
use Rattle.history.specs.Plain.{plain_amount, plain_position, settlement_causes, plain_settlement, plain_answer}
use Rattle.history.specs.Plain.{join_causes, plain_join, plain_accepts, with_one_more, plain_change, plain_step}

-- the same number and values, accepted by the ledger exactly where the number is 0
pub record Same (answered : Answered) (passed : Bool) (plain : Answered) : Type 0 where
  pub answer : answered ≡ plain
  pub accepts : passed ≡ eqb plain.number 0

-- the ledger's checks beside the plain ledger's causes: each is met at once, with one number and the same values
abbrev told : ℕ → Option Met → Option Answered
told number None = None
told number (Some met) = Some (record { number = number; values = met.values })

unfoldable Alike : List Check → List (Option Answered) → Type 0
Alike [] [] = Unit {0}
Alike [] (o ∷ causes) = ⊥
Alike (c ∷ checks) [] = ⊥
Alike (c ∷ checks) (o ∷ causes) = (told c.number c.met ≡ o) × Alike checks causes

first_same : (checks : List Check) (causes : List (Option Answered)) (values : List ℕ) → Alike checks causes →
    answered_by checks values ≡ first_cause causes values
unfolding Alike answered_by first_cause
first_same [] [] values h = refl
first_same [] (o ∷ causes) values h = absurd h
first_same (c ∷ checks) [] values h = absurd h
first_same (c ∷ checks) (o ∷ causes) values h = rw (← h.0) (go c.met (first_same checks causes values h.1))
  where
    go : (m : Option Met) → answered_by checks values ≡ first_cause causes values →
        answered_or c.number m (answered_by checks values) ≡ first_cause (told c.number m ∷ causes) values
    go None later = later
    go (Some met) later = refl

call_same : (checks : List Check) (causes : List (Option Answered)) (values : List ℕ) → AllTold checks →
    Alike checks causes →
    Same (verdict_answered values (verdict_of checks)) (is_passed (verdict_of checks)) (first_cause causes values)
call_same checks causes values t a =
    let same = verdict_told checks values t ∙ first_same checks causes values a in
    record {
      answer = same;
      accepts = passed_number values (verdict_of checks) ∙ ap (λ (x : Answered). eqb x.number 0)
          same;
    }

-- one check and one cause
test_same : (number : ℕ) (refusal : Refusal) (passed : Bool) →
    told number (met_unless passed refusal) ≡ cause number passed
test_same number refusal true = refl
test_same number refusal false = refl

term_same : (place : Option Place) → told 10 (missing_at place) ≡ cause_at_term 10 place
term_same None = refl
term_same (Some place) = refl

line_same : (line : Option ℕ) → told 11 (out_of_bounds_at line) ≡ cause_at_line 11 line
line_same None = refl
line_same (Some line) = refl

-- the ledger that follows is sound
module _ (plain : Plain) (h : sound (image plain) ≡ true) where
  few : plain.count ≤ most_distributors
  unfolding image
  few = (sound_facts (image plain) h).few

  -- a month is settled in both or in neither: past the distributors there are, no month is counted
  settled_same : any_settled (image plain) ≡ plain_settled plain
  unfolding image any_settled plain_settled
  settled_same =
      let counts = filled_below most_distributors 0 plain.count plain.months in
      any_wide plain.count most_distributors (λ i. not (eqb (count_at counts i) 0)) few
      (λ i p q. ap (λ k. not (eqb k 0)) (filled_past most_distributors 0 plain.months plain.count i p q))
      ∙ any_same plain.count (λ i. not (eqb (count_at counts i) 0)) (λ i. not (eqb (plain.months i) 0))
      (λ i p. ap (λ k. not (eqb k 0))
      (filled_at most_distributors 0 plain.months plain.count i p (omega (arith, few))))

-- the fixing that is made the older, by its arguments and by its presences and charges
module _ (n : ℕ) (call : FixingCall) where
  kept_same : (later same : Bool) (older : Option FixingCall) →
      ((later || (is_held older && same)) ≡ is_held (cond later (Some call) (cond same older None)))
      × (cond later (held_force n (Some call)) (cond (is_held older && same) (held_force n older) no_charges) ≡ held_force n
      (cond later (Some call) (cond same older None)))
  kept_same true same older = (refl, refl)
  kept_same false true None = (refl, refl)
  kept_same false true (Some o) = (refl, refl)
  kept_same false false None = (refl, refl)
  kept_same false false (Some o) = (refl, refl)

older_same : (plain : Plain) (month : ℕ) → sound (image plain) ≡ true →
    (older_stands (image plain) month ≡ is_held (older_for plain.held plain.older month))
    × (older_beside (image plain) month ≡ held_force plain.count (older_for plain.held plain.older month))
unfolding image older_stands older_beside makes_older stays_older older_for
older_same plain month h = go plain.held plain.older (sound_facts (image plain) h).fixings.beside
  where
    go : (held older : Option FixingCall) → (is_held older ≡ true → is_held held ≡ true) →
        (((is_held held && ltb (held_month held) month) || (is_held older && eqb month (held_month held))) ≡ is_held
        (older_for held older month))
        × (cond (is_held held && ltb (held_month held) month) (held_force plain.count held)
        (cond (is_held older && eqb month (held_month held)) (held_force plain.count older) no_charges) ≡ held_force
        plain.count (older_for held older month))
    go None None beside = (refl, refl)
    go None (Some o) beside = absurd (true≢false (sym (beside refl)))
    go (Some call) older beside =
        kept_same plain.count call (ltb call.input.numbers.month month)
        (eqb month call.input.numbers.month) older

fixing_alike : (plain : Plain) (call : FixingCall) → sound (image plain) ≡ true →
    Alike (fixing_checks (image plain) call) (fixing_causes plain call)
unfolding image next_month plain_next fixing_checks input_checks table_checks month_check price_checks bounds_check fixing_causes
    Alike
fixing_alike plain call h =
    let n = plain.count in
    let input = call.input in
    let month = input.numbers.month in
    let day : Bool → Bool = day_allowed month input.numbers.day in (
      test_same 2 Unsound (sound (image plain)),
      (
        test_same 3 WrongLength (call_lengths n call),
        (
          ap (λ b. told 4 (met_unless (fixing_turn b (plain_next plain) month) OutOfTurn)) (settled_same plain h)
              ∙ test_same 4 OutOfTurn (fixing_turn (plain_settled plain) (plain_next plain) month),
          (
            ap (λ b. told 16 (met_unless (day b) WrongDay)) (older_same plain month h).0
                ∙ test_same 16 WrongDay (day (is_held (older_for plain.held plain.older month))),
            (
              test_same 6 OutOfRange (ranged n input),
              (
                test_same 7 ValueTooLarge (values_in_range input.series),
                (
                  test_same 8 WrongSector (sectors_allowed n input.sectors),
                  (
                    test_same 9 NoLine (supplied n input),
                    (
                      term_same (missing_place input),
                      (line_same (beyond_line input), (test_same 14 NoLineMoved (some_moved input), tt)),
                    ),
                  ),
                ),
              ),
            ),
          ),
        ),
      ),
    )

pub fixing_same : (plain : Plain) (call : FixingCall) → sound (image plain) ≡ true →
    Same (fixing_answered (fixing_answer (image plain) call)) (is_passed (fixing_verdict (image plain) call))
    (plain_fixing plain call)
unfolding image plain_fixing returned_values fixing_verdict
fixing_same plain call h =
    let values = returned_values (input_distributors plain.count call.input) in
    let same = call_same (fixing_checks (image plain) call) (fixing_causes plain call) values
    (fixing_told (image plain) call) (fixing_alike plain call h) in
    record { answer = answer_told (image plain) call ∙ same.answer; accepts = same.accepts }

pub fixing_step : (plain : Plain) (call : FixingCall) → sound (image plain) ≡ true →
    fixing_ledger (image plain) call ≡ image (plain_step plain (fixing call))
unfolding image fixing_ledger fixed_ledger plain_step plain_accepts plain_answer plain_change input_distributors accepted_fixing
fixing_step plain call h =
    go (is_passed (fixing_verdict (image plain) call))
    ∙ ap (λ b. image (cond b (plain_change plain (fixing call)) plain)) (fixing_same plain call h).accepts
  where
    go : (b : Bool) →
        cond b (fixed_ledger (image plain) call.input.numbers (worked_fixing plain.count call.input).sectors)
        (image plain) ≡ image (cond b (plain_change plain (fixing call)) plain)
    go true =
        let older = older_same plain call.input.numbers.month h in
        ap (λ (x : Fixing). fixed_ledger (image plain) call.input.numbers x.sectors)
        (passed_fixing plain.count call.input)
        ∙ rw (older.0, older.1)
    go false = refl

-- the positions are the same below n
module _ (plain : Plain) (call : SettlementCall) (h : sound (image plain) ≡ true) where
  position_same : (i : ℕ) → i < plain.count → money_at (positions_of (image plain) call) i ≡ plain_position plain call i
  unfolding image billed_under positions_of position_list position_of plain_position plain_amount plain_under
  position_same i p =
      let held : ℕ → ℤ = money_at (money_below plain.count plain.balance) in
      money_at_lem (position_of held (plain_amount plain call)) plain.count i p (omega (arith, few plain h))
      ∙ ap (λ (z : ℤ). z +ℤ plain_amount plain call i)
      (money_at_lem plain.balance plain.count i p (omega (arith, few plain h)))

  pub settlement_same : Same (verdict_answered [] (settlement_verdict (image plain) call))
      (is_passed (settlement_verdict (image plain) call)) (plain_settlement plain call)
  unfolding image next_month billed_under plain_next plain_under settlement_verdict settlement_checks settlement_causes
      plain_settlement Alike
  settlement_same =
      let n = plain.count in
      let turn : Bool → Bool = λ settled. settlement_turn settled (plain_next plain) (is_held plain.held)
      (held_month plain.held) call.month in
      let within = range_same n (money_at (positions_of (image plain) call)) (plain_position plain call) position_same in
      call_same (settlement_checks (image plain) call) (settlement_causes plain call) []
      (settlement_told (image plain) call) (
        test_same 2 Unsound (sound (image plain)),
        (
          test_same 3 WrongLength (billing_lengths n call),
          (
            ap (λ b. told 4 (met_unless (turn b) OutOfTurn)) (settled_same plain h) ∙ test_same 4 OutOfTurn
                (turn (plain_settled plain)),
            (
              test_same 5 NoFixing (is_held plain.held),
              (
                test_same 12 WrongReading
                    (billing_in_range n (plain_under plain call.month).present call.readings call.losses),
                (
                  ap (λ b. told 13 (met_unless b PositionBeyond)) within ∙ test_same 13 PositionBeyond
                      (positions_in_range n (plain_position plain call)),
                  tt,
                ),
              ),
            ),
          ),
        ),
      )

  pub settlement_step : settlement_ledger (image plain) call ≡ image (plain_step plain (settlement call))
  unfolding image settlement_ledger settled_ledger raised_counts settled_month plain_step plain_accepts plain_answer
      plain_change
  settlement_step =
      go (is_passed (settlement_verdict (image plain) call))
      ∙ ap (λ b. image (cond b (plain_change plain (settlement call)) plain)) settlement_same.accepts
    where
      go : (b : Bool) →
          cond b (settled_ledger (image plain) call.month
          (settled_month plain.count (positions_of (image plain) call)).balances) (image plain) ≡ image
          (cond b (plain_change plain (settlement call)) plain)
      go true =
          rw (
            money_same (new_balance plain.count (money_at (positions_of (image plain) call))) plain.count
                (new_balance plain.count (plain_position plain call))
                (balance_same plain.count (money_at (positions_of (image plain) call)) (plain_position plain call)
                position_same),
            filled_same most_distributors 0 plain.count
                (λ i. count_at (filled_below most_distributors 0 plain.count plain.months) i + 1)
                (λ i. plain.months i + 1)
                (λ i p. ap (λ k. k + 1)
                (filled_at most_distributors 0 plain.months plain.count i p (omega (arith, few plain h)))),
          )
      go false = refl

-- a join
module _ (plain : Plain) where
  pub join_same : Same (verdict_answered [] (join_verdict (image plain))) (is_passed (join_verdict (image plain)))
      (plain_join plain)
  unfolding image join_verdict join_checks join_causes plain_join Alike
  join_same =
      call_same (join_checks (image plain)) (join_causes plain) [] (join_told (image plain)) (
        test_same 2 Unsound (sound (image plain)),
        (test_same 15 LedgerFull (ltb plain.count most_distributors), tt),
      )

  -- what one more has who joins
  one_more : {A : Type 0} (f : ℕ → A) (new : A) → new ≡ with_one_more plain.count f new plain.count
  one_more f new = rw (le-ltb plain.count plain.count (omega arith))

  those_before : {A : Type 0} (f : ℕ → A) (new : A) (i : ℕ) → i < plain.count →
      f i ≡ with_one_more plain.count f new i
  those_before f new i p = rw (lt-ltb i plain.count p)

  pub join_step : join_ledger (image plain) ≡ image (plain_step plain join)
  unfolding image join_ledger joined_ledger unfixed_ledger plain_step plain_accepts plain_answer plain_change
  join_step =
      go (is_passed (join_verdict (image plain))) refl
      ∙ ap (λ b. image (cond b (plain_change plain join) plain)) join_same.accepts
    where
      go : (b : Bool) → is_passed (join_verdict (image plain)) ≡ b →
          cond b (joined_ledger (image plain)) (image plain) ≡ image (cond b (plain_change plain join) plain)
      go true e =
          let p : plain.count < most_distributors = join_passed (image plain) e in
          let balance = with_one_more plain.count plain.balance (pos 0) in
          ap₂ (unfixed_ledger (plain.count + 1) plain.last)
          (money_next balance plain.count (money_below plain.count plain.balance) (pos 0) p
          (money_same plain.balance plain.count balance (those_before plain.balance (pos 0)))
          (one_more plain.balance (pos 0)))
          (filled_next most_distributors 0 plain.count (with_one_more plain.count plain.months 0) _ 0 p
          (filled_same most_distributors 0 plain.count plain.months _ (those_before plain.months 0))
          (one_more plain.months 0))
      go false e = refl
