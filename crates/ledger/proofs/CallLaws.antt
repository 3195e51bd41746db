-- What an accepted call passed: each check of its list. Assumes nothing.
use mathlib.Core.Path.{◌≡◌, sym, ◌∙◌}
use mathlib.Core.Bool.{true, ◌&&◌}
use Prim.Native.Nat.{ℕ, ◌*◌, ◌%◌, ◌≤◌, ◌<◌}
use lib.Dec.{eqb}
use lib.ListN.{length}
use borrow.Author.Tests.{eqb-true, ltb-true}
use Rattle.numbers.specs.Refusal.{is_passed}
use Rattle.numbers.specs.Checks.{verdict_of}
use Rattle.numbers.specs.Units.{between}
use Rattle.numbers.specs.Sizes.{most_distributors, sector_count}
use Rattle.numbers.specs.declared.refusal.Refusal.TheVariants.{Unsound, WrongLength, OutOfTurn, NoFixing, WrongReading}
use Rattle.numbers.specs.declared.refusal.Refusal.TheVariants.{PositionBeyond, LedgerFull, WrongDay}
use Rattle.std.specs.Prelude.{Ok}
use Rattle.numbers.proofs.BoolLaws.{and_left, and_right, and_five}
use Rattle.numbers.proofs.CheckLaws.{FirstPass, passed_test, verdict_from, all_passed, is_passed_lem}
use Rattle.numbers.proofs.UnitLaws.{between_high}
use Rattle.series.specs.Series.{word_count}
use Rattle.supply.specs.Line.{line_words, most_lines, line_count}
use Rattle.fixing.specs.Limit.{InRange}
use Rattle.fixing.specs.Input.{input_verdict, input_distributors}
use Rattle.fixing.specs.Required.{RightLengths}
use Rattle.fixing.proofs.VerdictLaws.{input_range}
use Rattle.settlement.specs.Amount.{billing_in_range}
use Rattle.settlement.specs.Settlement.{positions_in_range}
use Rattle.settlement.specs.Month.{money_at}
use Rattle.ledger.specs.Calendar.{day_allowed}
use Rattle.ledger.specs.Ledger.{any_settled, next_month, older_stands}
use Rattle.ledger.specs.Billed.{billed_under}
use Rattle.ledger.specs.Sound.{sound}
use Rattle.ledger.specs.Turn.{fixing_turn, settlement_turn}
use Rattle.ledger.specs.Fix.{FixingCall, lines_whole, fixing_lengths, in_force_length, call_lengths, fixing_checks}
use Rattle.ledger.specs.Fix.{fixing_verdict}
use Rattle.ledger.specs.Settle.{SettlementCall, billing_lengths, settlement_checks, settlement_verdict, positions_of}
use Rattle.ledger.specs.Join.{join_checks, join_verdict}
use Rattle.ledger.specs.declared.ledger.Ledger.{Ledger}

-- a fixing
pub record FixingPassed (ledger : Ledger) (call : FixingCall) : Type 0 where
  pub whole : sound ledger ≡ true
  pub lengths : call_lengths ledger.n call ≡ true
  pub turn : fixing_turn (any_settled ledger) (next_month ledger) call.input.numbers.month ≡ true
  pub day : day_allowed call.input.numbers.month call.input.numbers.day
      (older_stands ledger call.input.numbers.month) ≡ true
  pub passed : input_verdict ledger.n call.input ≡ Ok tt

pub fixing_passed : (ledger : Ledger) (call : FixingCall) → is_passed (fixing_verdict ledger call) ≡ true →
    FixingPassed ledger call
unfolding fixing_verdict fixing_checks input_verdict FirstPass
fixing_passed ledger call h =
    let passed : verdict_of (fixing_checks ledger call) ≡ Ok tt = is_passed_lem (fixing_verdict ledger call) h in
    let all = all_passed (fixing_checks ledger call) passed in
    let later = all.1.1.1 in
    let four : FirstPass 4 (fixing_checks ledger call) = (all.0, (all.1.0, (all.1.1.0, (later.0, tt)))) in
    record {
      whole = passed_test Unsound _ all.0;
      lengths = passed_test WrongLength _ all.1.0;
      turn = passed_test OutOfTurn _ all.1.1.0;
      day = passed_test WrongDay _ later.0;
      passed = sym (verdict_from 4 (fixing_checks ledger call) four) ∙ passed;
    }

-- the lengths, list by list
pub length_parts : (n : ℕ) (call : FixingCall) → call_lengths n call ≡ true →
    (eqb (length call.input.series) word_count ≡ true)
    × (lines_whole call.input.lines ≡ true)
    × (eqb (length call.input.sectors) (n * sector_count) ≡ true)
    × (eqb (length call.prices) (n * 3) ≡ true)
    × (eqb (length call.power) n ≡ true)
unfolding fixing_lengths
length_parts n call h =
    let series = eqb (length call.input.series) word_count in
    let lines = lines_whole call.input.lines in
    let sectors = eqb (length call.input.sectors) (n * sector_count) in
    let prices = eqb (length call.prices) (n * 3) in
    let power = eqb (length call.power) n in
    and_five series lines sectors prices power
    (and_left (series && lines && sectors && prices && power)
    (in_force_length call.is_interim call.input.lines call.input.in_force) h)

-- the lengths as facts
pub right_lengths : (n : ℕ) (call : FixingCall) → 1 ≤ n → n ≤ most_distributors → call_lengths n call ≡ true →
    RightLengths n call.input
unfolding lines_whole
right_lengths n call p q h =
    let parts = length_parts n call h in
    let counted = and_right (eqb (length call.input.lines % line_words) 0)
    (between 1 most_lines (line_count call.input.lines)) parts.1 in
    record {
      some = p;
      few = q;
      values = eqb-true _ word_count parts.0;
      lines = between_high 1 most_lines (line_count call.input.lines) counted;
      factors = eqb-true _ (n * sector_count) parts.2;
    }

-- so its distributors are in range of the limit
pub passed_range : (n : ℕ) (call : FixingCall) → 1 ≤ n → n ≤ most_distributors → call_lengths n call ≡ true →
    input_verdict n call.input ≡ Ok tt → InRange (input_distributors n call.input)
unfolding input_distributors
passed_range n call p q h v = input_range n call.input v (right_lengths n call p q h)

-- a settlement
pub record SettlementPassed (ledger : Ledger) (call : SettlementCall) : Type 0 where
  pub whole : sound ledger ≡ true
  pub lengths : billing_lengths ledger.n call ≡ true
  pub turn : settlement_turn (any_settled ledger) (next_month ledger) ledger.fixed ledger.month call.month ≡ true
  pub in_force : ledger.fixed ≡ true
  pub billed : billing_in_range ledger.n (billed_under ledger call.month).present call.readings call.losses
      ≡ true
  pub within : positions_in_range ledger.n (money_at (positions_of ledger call)) ≡ true

pub settlement_passed : (ledger : Ledger) (call : SettlementCall) → is_passed (settlement_verdict ledger call) ≡ true →
    SettlementPassed ledger call
unfolding settlement_verdict settlement_checks FirstPass
settlement_passed ledger call h =
    let all = all_passed (settlement_checks ledger call) (is_passed_lem (settlement_verdict ledger call) h) in
    let later = all.1.1.1 in
    record {
      whole = passed_test Unsound _ all.0;
      lengths = passed_test WrongLength _ all.1.0;
      turn = passed_test OutOfTurn _ all.1.1.0;
      in_force = passed_test NoFixing _ later.0;
      billed = passed_test WrongReading _ later.1.0;
      within = passed_test PositionBeyond _ later.1.1.0;
    }

-- a join: there is room for one more
pub join_passed : (ledger : Ledger) → is_passed (join_verdict ledger) ≡ true → ledger.n < most_distributors
unfolding join_verdict join_checks FirstPass
join_passed ledger h =
    ltb-true ledger.n most_distributors
    (passed_test LedgerFull _ (all_passed (join_checks ledger) (is_passed_lem (join_verdict ledger) h)).1.0)
