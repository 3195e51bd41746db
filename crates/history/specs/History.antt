-- Demand 3 of document 01 as one statement about a whole list of calls, interim fixings and joins among them ("Lists
-- may now contain interim fixings", W-201 of document 02; "Lists may now contain joins", W-205), with the power prices
-- that fixings write (W-204). Assumes nothing.
use Rattle.std.specs.Prelude.{◌≡◌, true, List, ◌∷◌, ◌++◌, ℕ, ◌+◌, ◌*◌, ◌<◌, length, get_or, ℤ, pos, ◌≤ℤ◌}
use Rattle.numbers.specs.Refusal.{is_passed}
use Rattle.numbers.specs.Signed.{signed_sum_below}
use Rattle.numbers.specs.Sizes.{most_distributors}
use Rattle.fixing.specs.Limit.{Distributors, contract_total, limit, rounds, final_price, charge}
use Rattle.fixing.specs.Input.{FixingInput, input_power_average, input_distributors}
use Rattle.fixing.specs.Charge.{prices_collect, largest_charge}
use Rattle.settlement.specs.Settlement.{one_sign}
use Rattle.settlement.specs.Month.{money_at}
use Rattle.ledger.specs.Sound.{sound}
use Rattle.ledger.specs.Fix.{FixingCall, fixing_verdict, fixing_list, fixing_power_list}
use Rattle.history.specs.Run.{Call, fixing, opened, after, answers}
use Rattle.history.specs.Plain.{plain_opened, image, plain_after, plain_answers, plain_collected}

-- the written final prices of a price list
abbrev pub written_final : List ℤ → ℕ → ℤ
written_final written i = get_or written (i * 3 + 1) (pos 0)

-- what an accepted fixing wrote, of its arguments: 3n words, average, final price and charge of each distributor as 01
-- defines them; no final price above the limit; they collect the contract total; every list of whole prices of either
-- sign, none above the limit, that does so has a largest charge at least as great; and the rounds made are below n
pub record WrittenPrices (n : ℕ) (d : Distributors) (written : List ℤ) : Type 0 where
  pub words : length written ≡ n * 3
  pub average : (i : ℕ) → i < n → get_or written (i * 3) (pos 0) ≡ pos (d.average i)
  pub final : (i : ℕ) → i < n → written_final written i ≡ pos (final_price d i)
  pub charged : (i : ℕ) → i < n → get_or written (i * 3 + 2) (pos 0) ≡ charge d i
  pub limited : (i : ℕ) → i < n → written_final written i ≤ℤ pos (limit d)
  pub collects : pos (contract_total d) ≤ℤ prices_collect d (written_final written)
  pub smallest : (price : ℕ → ℤ) → ((i : ℕ) → i < n → price i ≤ℤ pos (limit d)) →
      pos (contract_total d) ≤ℤ prices_collect d price → largest_charge d (written_final written) ≤ℤ largest_charge d price
  pub few : rounds d < n

-- what it wrote of power: n words, each distributor's average power price
pub record WrittenPower (n : ℕ) (input : FixingInput) (written : List ℕ) : Type 0 where
  pub words : length written ≡ n
  pub average : (i : ℕ) → i < n → get_or written i 0 ≡ input_power_average input i

-- how many distributors there are after a list of calls on a ledger opened with n: each join that was accepted added
-- one
abbrev pub count_after : ℕ → List Call → ℕ
count_after n calls = (plain_after (plain_opened n) calls).count

-- after every list of calls from a ledger that was opened with n distributors:
pub record History (n : ℕ) (calls : List Call) : Type 0 where
  -- the ledger equals the plain ledger part by part
  pub same : after (opened n) calls ≡ image (plain_after (plain_opened n) calls)
  -- the same calls were accepted, with the same numbers and values
  pub answered : answers (opened n) calls ≡ plain_answers (plain_opened n) calls
  -- balances add up to the collected amounts worked from the inputs
  pub total : signed_sum_below most_distributors (money_at (after (opened n) calls).balances) ≡ plain_collected
      (plain_opened n) calls
  -- never both signs
  pub signs : one_sign most_distributors (money_at (after (opened n) calls).balances) ≡ true
  -- the ledger is sound, so that no call in such a list meets 2
  pub whole : sound (after (opened n) calls) ≡ true
  -- each accepted fixing in the list, regular or interim, wrote 01's prices over the prices that its lines take, with a
  -- smallest largest charge, and 02's power prices, of the distributors that there were then
  pub fixings : (before rest : List Call) (call : FixingCall) → calls ≡ before ++ (fixing call ∷ rest) →
      is_passed (fixing_verdict (after (opened n) before) call) ≡ true →
      WrittenPrices (count_after n before) (input_distributors (count_after n before) call.input)
      (fixing_list (after (opened n) before) call)
      × WrittenPower (count_after n before) call.input (fixing_power_list (after (opened n) before) call)
