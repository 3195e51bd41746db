-- The "plain ledger" (a term of document 01), defined apart from the ledger: it holds the latest accepted fixing's
-- arguments, not charges, and its checks and steps are written over its own parts. Only the check of soundness goes
-- through its image, the ledger that follows from it. Joins are "done on the plain ledger in the same way" (W-205 of
-- document 02), and it "keeps the older fixing by the same rules" (W-206). Assumes nothing.
use Rattle.std.specs.Prelude.{Bool, true, false, cond, not, List, [], ◌∷◌, ℕ, ◌+◌, ltb, eqb, ℤ, pos, ◌+ℤ◌}
use Rattle.std.specs.Prelude.{Option, Some, None}
use Rattle.numbers.specs.Bounded.{any_below, filled_below}
use Rattle.numbers.specs.Refusal.{Answered, accepted, without_values}
use Rattle.numbers.specs.Signed.{signed_sum_below}
use Rattle.numbers.specs.Sizes.{most_distributors}
use Rattle.series.specs.Series.{values_in_range}
use Rattle.supply.specs.Months.{Place}
use Rattle.fixing.specs.Limit.{limit, surcharge, rounds, residue, charge}
use Rattle.fixing.specs.Sector.{sectors_allowed, sector_charges, no_charges}
use Rattle.fixing.specs.Input.{ranged, supplied, missing_place, beyond_line, some_moved, input_distributors}
use Rattle.fixing.specs.declared.sector.SectorCharges.{SectorCharges}
use Rattle.settlement.specs.Amount.{billing_in_range, collected_amount}
use Rattle.settlement.specs.Settlement.{position_of, positions_in_range, new_balance}
use Rattle.settlement.specs.Month.{money_below}
use Rattle.ledger.specs.Calendar.{day_allowed}
use Rattle.ledger.specs.Billed.{charges_for}
use Rattle.ledger.specs.Sound.{sound}
use Rattle.ledger.specs.Turn.{fixing_turn, settlement_turn}
use Rattle.ledger.specs.Fix.{FixingCall, call_lengths}
use Rattle.ledger.specs.Settle.{SettlementCall, billing_lengths}
use Rattle.ledger.specs.declared.ledger.Ledger.{Ledger}
use Rattle.history.specs.Run.{Call, fixing, settlement, join}

-- "It holds n, the count of settled months" of each distributor (02), "the last month, the latest accepted fixing's
-- arguments", those of the older one (02), "and n balances"
pub record Plain : Type 0 where
  pub count : ℕ
  pub months : ℕ → ℕ
  pub last : ℕ
  pub held : Option FixingCall
  pub older : Option FixingCall
  pub balance : ℕ → ℤ

-- "at first n, zeros and no fixing"
unfoldable pub plain_opened : ℕ → Plain
plain_opened n = record { count = n; months = λ i. 0; last = 0; held = None; older = None; balance = λ i. pos 0 }

-- what follows from the arguments held: whether there is a fixing, its month, its first day, its presences and sector
-- charges
abbrev pub is_held : Option FixingCall → Bool
is_held None = false
is_held (Some call) = true

abbrev pub held_month : Option FixingCall → ℕ
held_month None = 0
held_month (Some call) = call.input.numbers.month

abbrev pub held_day : Option FixingCall → ℕ
held_day None = 0
held_day (Some call) = call.input.numbers.day

abbrev pub held_force : ℕ → Option FixingCall → SectorCharges
held_force n None = no_charges
held_force n (Some call) = sector_charges n (charge (input_distributors n call.input)) call.input.sectors

-- the arguments kept as the older beside a new fixing for a month: for a later one those held, for the same one the
-- older as before, for an earlier one none
unfoldable pub older_for : Option FixingCall → Option FixingCall → ℕ → Option FixingCall
older_for None older month = None
older_for (Some call) older month =
    cond (ltb call.input.numbers.month month) (Some call)
    (cond (eqb month call.input.numbers.month) older None)

-- whether any month is settled, the month that comes next, and what a month is billed under: "where days are split, ..
-- the arguments of the fixing in force and of the older one"
unfoldable pub plain_settled : Plain → Bool
plain_settled plain = any_below plain.count (λ i. not (eqb (plain.months i) 0))

unfoldable pub plain_next : Plain → ℕ
plain_next plain = plain.last + 1

unfoldable pub plain_under : Plain → ℕ → SectorCharges
plain_under plain month =
    let n = plain.count in
    charges_for n (held_month plain.held) (held_day plain.held) (held_force n plain.older)
    (held_force n plain.held) month

-- the ledger that follows from the plain one; "unset parts are zero"
unfoldable pub image : Plain → Ledger
image plain =
    record {
      n = plain.count;
      last = plain.last;
      fixed = is_held plain.held;
      month = held_month plain.held;
      day = held_day plain.held;
      force = held_force plain.count plain.held;
      has_older = is_held plain.older;
      older = held_force plain.count plain.older;
      balances = money_below plain.count plain.balance;
      counts = filled_below most_distributors 0 plain.count plain.months;
    }

-- a cause by its number, met where a test fails
abbrev pub cause : ℕ → Bool → Option Answered
cause number passed = cond passed None (Some (without_values number))

-- a cause that returns its place: "line, term" and "first such line"
abbrev pub cause_at_term : ℕ → Option Place → Option Answered
cause_at_term number None = None
cause_at_term number (Some place) = Some (record { number = number; values = place.line ∷ place.term ∷ [] })

abbrev pub cause_at_line : ℕ → Option ℕ → Option Answered
cause_at_line number None = None
cause_at_line number (Some line) = Some (record { number = number; values = line ∷ [] })

-- the first cause that is met, or the values of what is accepted
unfoldable pub first_cause : List (Option Answered) → List ℕ → Answered
first_cause [] values = accepted values
first_cause (None ∷ rest) values = first_cause rest values
first_cause (Some met ∷ rest) values = met

-- "Each call is put to the checks below, in their order, on the plain ledger": a fixing, regular or interim
unfoldable pub fixing_causes : Plain → FixingCall → List (Option Answered)
fixing_causes plain call =
    let n = plain.count in
    let input = call.input in
    let month = input.numbers.month in
    cause 2 (sound (image plain))
    ∷ cause 3 (call_lengths n call)
    ∷ cause 4 (fixing_turn (plain_settled plain) (plain_next plain) month)
    ∷ cause 16 (day_allowed month input.numbers.day (is_held (older_for plain.held plain.older month)))
    ∷ cause 6 (ranged n input)
    ∷ cause 7 (values_in_range input.series)
    ∷ cause 8 (sectors_allowed n input.sectors)
    ∷ cause 9 (supplied n input)
    ∷ cause_at_term 10 (missing_place input)
    ∷ cause_at_line 11 (beyond_line input)
    ∷ cause 14 (some_moved input)
    ∷ []

unfoldable pub plain_fixing : Plain → FixingCall → Answered
plain_fixing plain call =
    let d = input_distributors plain.count call.input in
    first_cause (fixing_causes plain call) (limit d ∷ surcharge d ∷ rounds d ∷ residue d ∷ [])

-- the collected amount of each distributor: "works MFAR from its readings, its loss factors and those charges"
unfoldable pub plain_amount : Plain → SettlementCall → ℕ → ℤ
plain_amount plain call =
    collected_amount (plain_under plain call.month).charges call.readings call.losses

unfoldable pub plain_position : Plain → SettlementCall → ℕ → ℤ
plain_position plain call = position_of plain.balance (plain_amount plain call)

-- a settlement put to the checks
unfoldable pub settlement_causes : Plain → SettlementCall → List (Option Answered)
settlement_causes plain call =
    let n = plain.count in
    cause 2 (sound (image plain))
    ∷ cause 3 (billing_lengths n call)
    ∷ cause 4 (settlement_turn (plain_settled plain) (plain_next plain) (is_held plain.held) (held_month plain.held)
    call.month)
    ∷ cause 5 (is_held plain.held)
    ∷ cause 12 (billing_in_range n (plain_under plain call.month).present call.readings call.losses)
    ∷ cause 13 (positions_in_range n (plain_position plain call))
    ∷ []

unfoldable pub plain_settlement : Plain → SettlementCall → Answered
plain_settlement plain call = first_cause (settlement_causes plain call) []

-- a join put to the checks
unfoldable pub join_causes : Plain → List (Option Answered)
join_causes plain = cause 2 (sound (image plain)) ∷ cause 15 (ltb plain.count most_distributors) ∷ []

unfoldable pub plain_join : Plain → Answered
plain_join plain = first_cause (join_causes plain) []

unfoldable pub plain_answer : Plain → Call → Answered
plain_answer plain (fixing call) = plain_fixing plain call
plain_answer plain (settlement call) = plain_settlement plain call
plain_answer plain join = plain_join plain

-- "One that meets a cause is refused and changes nothing; any other is accepted"
unfoldable pub plain_accepts : Plain → Call → Bool
plain_accepts plain call = eqb (plain_answer plain call).number 0

-- what the n distributors have, and what one more has who joins them
abbrev pub with_one_more : {A : Type 0} → ℕ → (ℕ → A) → A → ℕ → A
with_one_more n f new i = cond (ltb i n) (f i) new

-- "An accepted fixing replaces the one held", and so does an interim one, "the prices in force being among its
-- arguments"; "An accepted settlement .. moves the balances .., sets the last month and raises" all counts; a join
-- "adds one at the end with balance 0", a count "zero on joining", and "the latest fixing [means] one made since the
-- last join"
unfoldable pub plain_change : Plain → Call → Plain
plain_change plain (fixing call) =
    record {
      count = plain.count;
      months = plain.months;
      last = plain.last;
      held = Some call;
      older = older_for plain.held plain.older call.input.numbers.month;
      balance = plain.balance;
    }
plain_change plain (settlement call) =
    record {
      count = plain.count;
      months = λ i. plain.months i + 1;
      last = call.month;
      held = plain.held;
      older = plain.older;
      balance = new_balance plain.count (plain_position plain call);
    }
plain_change plain join =
    record {
      count = plain.count + 1;
      months = with_one_more plain.count plain.months 0;
      last = plain.last;
      held = None;
      older = None;
      balance = with_one_more plain.count plain.balance (pos 0);
    }

unfoldable pub plain_step : Plain → Call → Plain
plain_step plain call = cond (plain_accepts plain call) (plain_change plain call) plain

unfoldable pub plain_after : Plain → List Call → Plain
plain_after plain [] = plain
plain_after plain (call ∷ calls) = plain_after (plain_step plain call) calls

unfoldable pub plain_answers : Plain → List Call → List Answered
plain_answers plain [] = []
plain_answers plain (call ∷ calls) = plain_answer plain call ∷ plain_answers (plain_step plain call) calls

-- "A collected amount is one distributor's MFAR in one accepted settlement; demand 3 adds up all of them"
unfoldable pub call_collects : Plain → Call → ℤ
call_collects plain (fixing call) = pos 0
call_collects plain (settlement call) = signed_sum_below plain.count (plain_amount plain call)
call_collects plain join = pos 0

unfoldable pub plain_collected : Plain → List Call → ℤ
plain_collected plain [] = pos 0
plain_collected plain (call ∷ calls) =
    cond (plain_accepts plain call) (call_collects plain call) (pos 0) +ℤ plain_collected (plain_step plain call) calls
