-- Demand 3: the run of the ledger is simulated by the plain ledger, call by call. Theorems about the definitions alone.
-- Assumes nothing.
use mathlib.Core.Path.{◌≡◌, refl, sym, ◌∙◌, ap, ap₂, subst}
use mathlib.Core.Bool.{Bool, true, false, cond}
use mathlib.Core.List.{List, [], ◌∷◌}
use Prim.Native.Nat.{ℕ, ◌≤◌}
use native.Mathlib.Omega.{arith}
use lib.IntN.{ℤ, pos, ◌+ℤ◌, +ℤ_idl, +ℤ_idr, +ℤ_assoc}
use Rattle.numbers.specs.Refusal.{Answered}
use Rattle.numbers.specs.Signed.{signed_sum_below}
use Rattle.numbers.specs.Checks.{verdict_of}
use Rattle.numbers.specs.Units.{no_money}
use Rattle.numbers.specs.Sizes.{most_distributors}
use Rattle.numbers.proofs.UnitLaws.{between_yes}
use Rattle.numbers.proofs.ListLaws.{filled_empty}
use Rattle.settlement.specs.Month.{money_at, money_below}
use Rattle.settlement.proofs.MonthLaws.{money_none}
use Rattle.fixing.specs.Input.{input_distributors}
use Rattle.ledger.specs.Ledger.{no_balances, unfixed_ledger, empty_ledger, opening_checks, opening_verdict, opening_ledger}
use Rattle.ledger.specs.Billed.{billed_under}
use Rattle.ledger.specs.Sound.{sound}
use Rattle.ledger.specs.Fix.{FixingCall, fixing_list, fixing_power_list}
use Rattle.ledger.specs.Settle.{SettlementCall}
use Rattle.ledger.specs.declared.ledger.Ledger.{Ledger}
use Rattle.ledger.proofs.SoundFacts.{sound_facts}
use Rattle.ledger.proofs.MoneyLaws.{money_sum}
use Rattle.ledger.proofs.KeptLaws.{opened_sound, fixing_keeps, settlement_keeps, settlement_adds, join_keeps}
use Rattle.ledger.proofs.KeptLaws.{join_balances}
use Rattle.history.specs.Run.{Call, fixing, settlement, join, opened, step, answer, after, answers}
use Rattle.history.specs.Plain.{Plain, plain_opened, image, plain_answer, plain_under, plain_amount, plain_accepts}
use Rattle.history.specs.Plain.{plain_change, plain_step, plain_after, plain_answers, call_collects, plain_collected}
use Rattle.history.specs.History.{WrittenPrices, WrittenPower, count_after, History}
use Rattle.history.proofs.CallLaws.{fixing_same, fixing_step, settlement_same, settlement_step}
use Rattle.history.proofs.CallLaws.{join_same, join_step}
use Rattle.history.proofs.WrittenLaws.{written, power_written}

-- one call: the ledger's step is the image of the plain one, and the answer is the same
pub step_same : (plain : Plain) (call : Call) → sound (image plain) ≡ true →
    step (image plain) call ≡ image (plain_step plain call)
unfolding step
step_same plain (fixing call) h = fixing_step plain call h
step_same plain (settlement call) h = settlement_step plain call h
step_same plain join h = join_step plain

pub answer_same : (plain : Plain) (call : Call) → sound (image plain) ≡ true →
    answer (image plain) call ≡ plain_answer plain call
unfolding answer plain_answer
answer_same plain (fixing call) h = (fixing_same plain call h).answer
answer_same plain (settlement call) h = (settlement_same plain call h).answer
answer_same plain join h = (join_same plain).answer

-- the balances' total
abbrev total : Ledger → ℤ
total ledger = signed_sum_below most_distributors (money_at ledger.balances)

step_keeps : (ledger : Ledger) (call : Call) → sound ledger ≡ true → sound (step ledger call) ≡ true
unfolding step
step_keeps ledger (fixing call) h = fixing_keeps ledger call h
step_keeps ledger (settlement call) h = settlement_keeps ledger call h
step_keeps ledger join h = join_keeps ledger h

module _ (plain : Plain) where
  step_sound : (call : Call) → sound (image plain) ≡ true → sound (image (plain_step plain call)) ≡ true
  step_sound call h = rw (step_same plain call h) at (step_keeps (image plain) call h)

  -- a fixing and a join move no balance, an accepted settlement moves them by the collected amounts
  fixing_adds : (call : FixingCall) (b : Bool) →
      total (image (cond b (plain_change plain (fixing call)) plain)) ≡ total (image plain) +ℤ cond b (pos 0) (pos 0)
  unfolding image plain_change
  fixing_adds call true = sym (+ℤ_idr (total (image plain)))
  fixing_adds call false = sym (+ℤ_idr (total (image plain)))

  settled_adds : (call : SettlementCall) → sound (image plain) ≡ true → (b : Bool) →
      plain_accepts plain (settlement call) ≡ b →
      total (image (plain_step plain (settlement call))) ≡ total (image plain) +ℤ cond b
      (signed_sum_below plain.count (plain_amount plain call)) (pos 0)
  unfolding image billed_under plain_under plain_accepts plain_answer plain_amount plain_step
  settled_adds call h true e =
      ap total (sym (settlement_step plain call h))
      ∙ settlement_adds (image plain) call h ((settlement_same plain call h).accepts ∙ e)
  settled_adds call h false e =
      ap (λ c. total (image (cond c (plain_change plain (settlement call)) plain))) e ∙ sym
      (+ℤ_idr (total (image plain)))

  join_adds : sound (image plain) ≡ true → (b : Bool) →
      total (image (plain_step plain join)) ≡ total (image plain) +ℤ cond b (pos 0) (pos 0)
  join_adds h b =
      ap total (sym (join_step plain))
      ∙ ap (λ l. signed_sum_below most_distributors (money_at l)) (join_balances (image plain) h)
      ∙ sym (+ℤ_idr (total (image plain)))
      ∙ nothing b
    where
      nothing : (c : Bool) → total (image plain) +ℤ pos 0 ≡ total (image plain) +ℤ cond c (pos 0) (pos 0)
      nothing true = refl
      nothing false = refl

  step_adds : (call : Call) → sound (image plain) ≡ true →
      total (image (plain_step plain call)) ≡ total (image plain) +ℤ cond (plain_accepts plain call)
      (call_collects plain call) (pos 0)
  unfolding plain_step call_collects
  step_adds (fixing call) h = fixing_adds call (plain_accepts plain (fixing call))
  step_adds (settlement call) h = settled_adds call h (plain_accepts plain (settlement call)) refl
  step_adds join h = join_adds h (plain_accepts plain join)

-- what a list of calls keeps, from any plain ledger whose image is sound
record Carried (plain : Plain) (calls : List Call) : Type 0 where
  same : after (image plain) calls ≡ image (plain_after plain calls)
  answered : answers (image plain) calls ≡ plain_answers plain calls
  adds : total (image (plain_after plain calls)) ≡ total (image plain) +ℤ plain_collected plain calls
  whole : sound (image (plain_after plain calls)) ≡ true

carry : (calls : List Call) (plain : Plain) → sound (image plain) ≡ true → Carried plain calls
unfolding after answers plain_after plain_answers plain_collected
carry [] plain h =
    record { same = refl; answered = refl; adds = sym (+ℤ_idr (total (image plain))); whole = h }
carry (call ∷ calls) plain h =
    let next = carry calls (plain_step plain call) (step_sound plain call h) in
    let gain : ℤ = cond (plain_accepts plain call) (call_collects plain call) (pos 0) in
    record {
      same = ap (λ b. after b calls) (step_same plain call h) ∙ next.same;
      answered =
          ap₂ (λ (x : Answered) xs. x ∷ xs) (answer_same plain call h)
          (ap (λ b. answers b calls) (step_same plain call h) ∙ next.answered);
      adds =
          next.adds
          ∙ ap (λ (z : ℤ). z +ℤ plain_collected (plain_step plain call) calls) (step_adds plain call h)
          ∙ +ℤ_assoc (total (image plain)) gain (plain_collected (plain_step plain call) calls);
      whole = next.whole;
    }

-- the opened ledger is the image of the plain one
module _ (n : ℕ) (p : 1 ≤ n) (q : n ≤ most_distributors) where
  none_same : money_below 0 (λ i. pos 0) ≡ money_below n (λ i. pos 0)
  unfolding money_below
  none_same =
      sym (money_none (λ i. pos 0)) ∙ filled_empty most_distributors no_money n (λ i. no_money) (λ i r. refl)

  opened_is : opened n ≡ empty_ledger n
  unfolding opened opening_ledger opening_verdict opening_checks verdict_of
  opened_is = rw (between_yes 1 most_distributors n p q, opened)

  opened_same : opened n ≡ image (plain_opened n)
  unfolding empty_ledger unfixed_ledger no_balances image plain_opened
  opened_same =
      opened_is
      ∙ ap₂ (unfixed_ledger n 0) none_same
      (filled_empty most_distributors 0 n (λ i. 0) (λ i r. refl))

  opened_total : total (opened n) ≡ pos 0
  unfolding empty_ledger unfixed_ledger no_balances signed_sum_below
  opened_total = ap total opened_is ∙ money_sum 0 (omega arith) (λ i. pos 0)

  start : (calls : List Call) → Carried (plain_opened n) calls
  start calls = carry calls (plain_opened n) (ap sound (sym opened_same ∙ opened_is) ∙ opened_sound n p q)

  run_same : (calls : List Call) → after (opened n) calls ≡ image (plain_after (plain_opened n) calls)
  run_same calls = ap (λ b. after b calls) opened_same ∙ (start calls).same

  run_sound : (calls : List Call) → sound (after (opened n) calls) ≡ true
  run_sound calls = rw (run_same calls) (start calls).whole

  run_count : (calls : List Call) → (after (opened n) calls).n ≡ count_after n calls
  unfolding image
  run_count calls = ap (λ (b : Ledger). b.n) (run_same calls)

pub history : (n : ℕ) → 1 ≤ n → n ≤ most_distributors → (calls : List Call) → History n calls
history n p q calls =
    record {
      same = run_same n p q calls;
      answered = ap (λ b. answers b calls) (opened_same n p q) ∙ (start n p q calls).answered;
      total =
          ap total (run_same n p q calls)
          ∙ (start n p q calls).adds
          ∙ ap (λ (b : Ledger). total b +ℤ plain_collected (plain_opened n) calls) (sym (opened_same n p q))
          ∙ ap (λ (z : ℤ). z +ℤ plain_collected (plain_opened n) calls) (opened_total n p q)
          ∙ +ℤ_idl (plain_collected (plain_opened n) calls);
      signs = (sound_facts (after (opened n) calls) (run_sound n p q calls)).signs;
      whole = run_sound n p q calls;
      fixings = λ before rest call e accepted.
          subst (λ m. WrittenPrices m (input_distributors m call.input) (fixing_list (after (opened n) before) call)
          × WrittenPower m call.input (fixing_power_list (after (opened n) before) call))
          (run_count n p q before) (
            written (after (opened n) before) call (run_sound n p q before) accepted,
            power_written (after (opened n) before) call (run_sound n p q before) accepted,
          );
    }
