-- The open calls of fixing, regular and interim (W-201 of document 02): their checks in their order, answer, the ledger
-- handed back, and the two lists written, of prices and of power prices (W-204). Assumes nothing.
use Rattle.std.specs.Prelude.{◌≡◌, Bool, true, cond, ◌&&◌, List, [], ◌∷◌, ℕ, zero, suc, ◌*◌, ◌/◌, ◌%◌, eqb, ltb, length, get_or, ℤ, pos}
use Rattle.numbers.specs.Bounded.{list_below}
use Rattle.numbers.specs.Refusal.{Answered, Verdict, answer_by, result_answered, is_passed}
use Rattle.numbers.specs.Checks.{Check, check, verdict_of, answered_by}
use Rattle.numbers.specs.declared.refusal.Refusal.TheVariants.{Unsound, WrongLength, OutOfTurn, WrongDay}
use Rattle.numbers.specs.declared.refusal.Refusal.{Refusal}
use Rattle.std.specs.Prelude.{Option, is_some, unwrap_or, Result, Ok, Err}
use Rattle.numbers.specs.Units.{between, no_price, no_power}
use Rattle.numbers.specs.Sizes.{sector_count}
use Rattle.numbers.specs.declared.units.PesoPrice.{PesoPrice}
use Rattle.series.specs.Series.{word_count}
use Rattle.supply.specs.Line.{line_words, most_lines, line_count}
use Rattle.supply.specs.declared.market.FixingNumbers.{FixingNumbers}
use Rattle.fixing.specs.Input.{FixingInput, input_of, input_checks, input_distributors}
use Rattle.fixing.specs.Prices.{returned_values}
use Rattle.fixing.specs.Fixing.{worked_fixing}
use Rattle.fixing.specs.declared.fix.Fixing.{Fixing}
use Rattle.fixing.specs.declared.prices.FixedPrices.{FixedPrices}
use Rattle.ledger.specs.Calendar.{day_allowed}
use Rattle.ledger.specs.Ledger.{any_settled, next_month, older_stands, fixed_ledger}
use Rattle.ledger.specs.Sound.{sound}
use Rattle.ledger.specs.Turn.{fixing_turn}
use Rattle.ledger.specs.declared.ledger.Ledger.{Ledger}
use Rattle.ledger.specs.declared.fix.FixingValues.{FixingValues}

-- what a fixing is given beside the ledger: its input, whether it is an interim one, and the lent lists for the prices
-- and for the power prices, as found
pub record FixingCall : Type 0 where
  pub input : FixingInput
  pub is_interim : Bool
  pub prices : List ℤ
  pub power : List ℕ

-- a call from its parts
abbrev pub fixing_call_of : Bool → FixingNumbers → List ℕ → List ℕ → List ℕ → List ℕ → List ℤ → List ℕ → FixingCall
fixing_call_of is_interim numbers series lines sectors in_force prices power =
    record {
      input = input_of numbers series lines sectors in_force;
      is_interim = is_interim;
      prices = prices;
      power = power;
    }

-- a call from its parts, with the prices in force of an interim fixing
abbrev pub lent_call : FixingNumbers → List ℕ → List ℕ → List ℕ → Option (List ℕ) → List ℤ → List ℕ → FixingCall
lent_call numbers series lines sectors in_force prices power =
    fixing_call_of (is_some in_force) numbers series lines sectors (unwrap_or in_force []) prices power

-- "a lent list of wrong length or line count": whole lines, 1 to 256 of them
unfoldable pub lines_whole : List ℕ → Bool
lines_whole lines = eqb (length lines % line_words) 0 && between 1 most_lines (line_count lines)

-- "A further lent list of n words takes each distributor's average"
unfoldable pub fixing_lengths : ℕ → List ℕ → List ℕ → List ℕ → List ℤ → List ℕ → Bool
fixing_lengths n series lines sectors prices power =
    eqb (length series) word_count
    && lines_whole lines
    && eqb (length sectors) (n * sector_count)
    && eqb (length prices) (n * 3)
    && eqb (length power) n

-- a price in force for each line, "a list of another length 3"; a regular fixing has none
unfoldable pub in_force_length : Bool → List ℕ → List ℕ → Bool
in_force_length is_interim lines in_force = eqb (length in_force) (cond is_interim (line_count lines) 0)

-- of a call
abbrev pub call_lengths : ℕ → FixingCall → Bool
call_lengths n call =
    fixing_lengths n call.input.series call.input.lines call.input.sectors call.prices call.power
    && in_force_length call.is_interim call.input.lines call.input.in_force

-- the checks of a fixing in their order: unsound ledger, a lent list of wrong length or line count, month above 1,199
-- or out of turn, "16 when the day isn't in its month, or is above 1 where no older fixing for these distributors would
-- stand beside the new one, checked after 5", then those of its input
unfoldable pub fixing_checks : Ledger → FixingCall → List Check
fixing_checks ledger call =
    let numbers = call.input.numbers in
    check 2 (sound ledger) Unsound
    ∷ check 3 (call_lengths ledger.n call) WrongLength
    ∷ check 4 (fixing_turn (any_settled ledger) (next_month ledger) numbers.month) OutOfTurn
    ∷ check 16 (day_allowed numbers.month numbers.day (older_stands ledger numbers.month)) WrongDay
    ∷ input_checks ledger.n call.input

unfoldable pub fixing_verdict : Ledger → FixingCall → Verdict
fixing_verdict ledger call = verdict_of (fixing_checks ledger call)

-- the fixing, or why it is refused
unfoldable pub worked_answer : Ledger → FixingCall → Result Fixing Refusal
worked_answer ledger call = answer_by (fixing_verdict ledger call) (worked_fixing ledger.n call.input)

-- an accepted fixing "returns L, r (0 if none), rounds, residue"
unfoldable pub accepted_values : FixedPrices → FixingValues
accepted_values prices =
    record {
      limit = prices.limit;
      surcharge = prices.surcharge;
      rounds = prices.rounds;
      residue = prices.residue;
    }

-- these, or why a fixing is refused
abbrev pub FixingAnswer : Type 0
FixingAnswer = Result FixingValues Refusal

unfoldable pub fixing_answer : Ledger → FixingCall → FixingAnswer
fixing_answer ledger call =
    answer_by (fixing_verdict ledger call) (accepted_values (worked_fixing ledger.n call.input).prices)

-- the number of each answer (0: accepted), and the values returned with it
abbrev pub fixing_answered : FixingAnswer → Answered
fixing_answered answer =
    result_answered (λ values. values.limit.0 ∷ values.surcharge.0 ∷ values.rounds ∷ values.residue.0 ∷ []) answer

-- "the count of rounds made" is below the number of distributors
abbrev pub rounds_below : ℕ → FixingAnswer → Bool
rounds_below n (Ok values) = ltb values.rounds n
rounds_below n (Err refusal) = true

-- the ledger handed back: a refused one unchanged
unfoldable pub fixing_ledger : Ledger → FixingCall → Ledger
fixing_ledger ledger call =
    let booked = fixed_ledger ledger call.input.numbers (worked_fixing ledger.n call.input).sectors in
    cond (is_passed (fixing_verdict ledger call)) booked ledger

-- "Fixing writes average, final, charge, distributor by distributor": the three words of one, and word k of the list
abbrev pub price_part : ℕ → ℕ → ℤ → ℕ → ℤ
price_part average final charge zero = pos average
price_part average final charge (suc zero) = pos final
price_part average final charge (suc (suc k)) = charge

unfoldable pub price_word : List PesoPrice → List PesoPrice → List ℤ → ℕ → ℤ
price_word averages finals charges k =
    price_part (get_or averages (k / 3) no_price).0 (get_or finals (k / 3) no_price).0 (get_or charges (k / 3) (pos 0)) (k % 3)

unfoldable pub price_list : ℕ → Fixing → List ℤ
price_list n fixing =
    list_below (n * 3) (price_word fixing.averages fixing.prices.finals fixing.charges)

unfoldable pub fixing_list : Ledger → FixingCall → List ℤ
fixing_list ledger call =
    cond (is_passed (fixing_verdict ledger call))
    (price_list ledger.n (worked_fixing ledger.n call.input))
    call.prices

-- the average power price of each distributor
unfoldable pub average_power_list : ℕ → Fixing → List ℕ
average_power_list n fixing = list_below n (λ i. (get_or fixing.power i no_power).0)

unfoldable pub fixing_power_list : Ledger → FixingCall → List ℕ
fixing_power_list ledger call =
    cond (is_passed (fixing_verdict ledger call))
    (average_power_list ledger.n (worked_fixing ledger.n call.input))
    call.power

-- what the open calls promise, for every ledger and every call: answer, its number and values, rounds below n, ledger
-- and both written lists
pub record FixingPromise (ledger : Ledger) (call : FixingCall) (given : FixingAnswer) (next : Ledger) (list : List ℤ)
    (power : List ℕ) : Type 0 where
  pub answered : given ≡ fixing_answer ledger call
  pub numbered : fixing_answered given
      ≡ answered_by (fixing_checks ledger call) (returned_values (input_distributors ledger.n call.input))
  pub few : rounds_below ledger.n given ≡ true
  pub booked : next ≡ fixing_ledger ledger call
  pub listed : list ≡ fixing_list ledger call
  pub power_listed : power ≡ fixing_power_list ledger call

-- what a fixing hands back as it promises, and that it was accepted
pub record HandedBack : Type 0 where
  pub answer : FixingAnswer
  pub ledger : Ledger
  pub prices : List ℤ
  pub power : List ℕ

abbrev pub HandsBack : Ledger → FixingCall → HandedBack → Type 0
HandsBack ledger call given =
    FixingPromise ledger call given.answer given.ledger given.prices given.power

abbrev pub IsAccepted : HandedBack → Type 0
IsAccepted given = (fixing_answered given.answer).number ≡ 0

pub record FixingAccepted (ledger : Ledger) (call : FixingCall) (given : HandedBack) : Type 0 where
  pub promise : HandsBack ledger call given
  pub number : IsAccepted given

-- all but the power list is the same
pub record SameButPowerList (one other : HandedBack) : Type 0 where
  pub answer : one.answer ≡ other.answer
  pub ledger : one.ledger ≡ other.ledger
  pub prices : one.prices ≡ other.prices
