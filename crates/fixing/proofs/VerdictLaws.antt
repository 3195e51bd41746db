-- Laws of the verdict on an input: what each check that is passed lets the code go on with, what the fixing comes to
-- where a check is met, and that its verdict has the number and values of the checks. Assumes nothing.
use mathlib.Core.Path.{◌≡◌, refl, sym, ◌∙◌, ap}
use mathlib.Core.Bool.{true, false}
use mathlib.Core.List.{List, []}
use Rattle.std.specs.Prelude.{None, Ok, Err}
use Prim.Native.Nat.{ℕ, ◌≤◌, ◌<◌}
use native.Mathlib.Omega.{arith}
use lib.ListN.{get_or}
use Rattle.numbers.specs.Checks.{verdict_of}
use Rattle.numbers.specs.Units.{no_price, no_power, least_price, most_price}
use Rattle.numbers.specs.declared.refusal.Refusal.{Refusal}
use Rattle.numbers.specs.declared.refusal.Refusal.TheVariants.{OutOfRange, ValueTooLarge, WrongSector, NoLine}
use Rattle.numbers.specs.Refusal.{answer_by}
use Rattle.numbers.specs.Required.{ValuesWithin}
use Rattle.numbers.specs.declared.units.PesoPrice.{PesoPrice}
use Rattle.numbers.specs.declared.units.PowerPrice.{PowerPrice}
use Rattle.numbers.proofs.ListLaws.{filled_at}
use Rattle.numbers.proofs.CheckLaws.{FirstPass, AllTold, passes, refused_unless, passed_test, verdict_from, all_passed}
use Rattle.numbers.proofs.CheckLaws.{check_told, answers_by}
use Rattle.series.specs.Series.{values_in_range}
use Rattle.series.specs.Required.{TableInRange}
use Rattle.series.proofs.SeriesLaws.{table_in_range}
use Rattle.supply.specs.Line.{most_lines, line_count}
use Rattle.supply.specs.Price.{price_checks, table_checks, reference_price, reference_list, power_price, power_list}
use Rattle.supply.specs.Price.{worked_prices, LinePricesPromise}
use Rattle.supply.specs.Required.{NumbersFacts}
use Rattle.supply.specs.declared.price.LinePrices.{LinePrices}
use Rattle.supply.proofs.RangeLaws.{input_numbers, input_lines, input_in_force}
use Rattle.supply.proofs.PriceLaws.{search_within, power_within, bounds_passed}
use Rattle.supply.proofs.LinePriceLaws.{table_told, passed_bounds, passed_prices, passed_refused}
use Rattle.fixing.specs.Average.{energy_list, average_list}
use Rattle.fixing.specs.Limit.{InRange, distributors}
use Rattle.fixing.specs.Power.{power_averages}
use Rattle.fixing.specs.Sector.{sectors_allowed}
use Rattle.fixing.specs.Input.{FixingInput, index_table, input_mean, ranged, supplied, beyond_line}
use Rattle.fixing.specs.Input.{input_checks, input_verdict, input_references, input_power_prices, input_power}
use Rattle.fixing.specs.Input.{input_averages, input_energies}
use Rattle.fixing.specs.Fixing.{accepted_fixing, worked_fixing, InputPromise}
use Rattle.fixing.specs.Required.{OwnLines, AcceptedLines, PowerPricedLines, RightLengths, CheckedInput}
use Rattle.fixing.specs.declared.fix.Fixing.{Fixing}
use Rattle.fixing.proofs.InputLaws.{own_lines, accepted_range}

-- lines are looked for before months: a distributor without line is 9, whatever months are missing
pub no_line : (n : ℕ) (input : FixingInput) → ranged n input ≡ true → values_in_range input.series ≡ true →
    sectors_allowed n input.sectors ≡ true → supplied n input ≡ false → verdict_of (input_checks n input) ≡ Err
    NoLine
unfolding FirstPass input_checks
no_line n input a b c =
    refused_unless 3 (input_checks n input) 9 _ NoLine _
    (passes OutOfRange a, (passes ValueTooLarge b, (passes WrongSector c, tt))) refl

abbrev reference_of : FixingInput → ℕ → PesoPrice
reference_of input = reference_price (input_mean input) input.numbers input.lines input.in_force

-- what the code goes on with
module _ (n : ℕ) (input : FixingInput) where
  pub ranged_own : RightLengths n input → ranged n input ≡ true → OwnLines input.lines
  ranged_own r h =
      own_lines n input.lines r.few r.lines (input_lines n input.numbers input.lines input.in_force h)

  module _ (ok : CheckedInput n input) where
    pub checked_own : OwnLines input.lines
    checked_own = ranged_own ok.lengths ok.ranges

    pub checked_numbers : NumbersFacts input.numbers
    checked_numbers = input_numbers n input.numbers input.lines input.in_force ok.ranges

    pub checked_in_force : ValuesWithin 1000000 input.in_force
    checked_in_force = input_in_force n input.numbers input.lines input.in_force ok.ranges

    pub checked_table : (table : List (List ℕ)) → table ≡ index_table input → TableInRange table
    checked_table table e = rw e (table_in_range input.series ok.small)

    -- references of which none is out of bounds can be averaged
    pub checked_accepted : beyond_line input ≡ None → (prices : List PesoPrice) → prices ≡ input_references input →
        AcceptedLines n prices input.lines
    unfolding input_references reference_list
    checked_accepted h prices e =
        record {
          some = ok.lengths.some;
          few = ok.lengths.few;
          priced = record { own = checked_own; priced = λ j p. omega (arith, listed j p, (within j p).1) };
          least = λ j p. omega (arith, listed j p, (within j p).0);
          supplied = ok.everyone;
        }
      where
        within : (j : ℕ) → j < line_count input.lines →
            (least_price ≤ (reference_of input j).0) × ((reference_of input j).0 ≤ most_price)
        within = search_within (input_mean input) input.numbers input.lines input.in_force h

        listed : (j : ℕ) → j < line_count input.lines → (get_or prices j no_price).0 ≡ (reference_of input j).0
        listed j p =
            rw e (ap (λ x. x.0) (filled_at most_lines no_price (reference_of input) (line_count input.lines) j p
            (omega (arith, ok.lengths.lines))))

    -- and so can power prices
    pub checked_power : beyond_line input ≡ None → (power : List PowerPrice) → power ≡ input_power_prices input →
        PowerPricedLines power input.lines
    unfolding input_power_prices power_list
    checked_power h power e =
        record {
          own = checked_own;
          priced = λ j p.
              rw (
                e,
                ap (λ x. x.0) (filled_at most_lines no_power
                    (power_price (input_mean input) input.numbers input.lines) (line_count input.lines) j p
                    (omega (arith, ok.lengths.lines))),
              )
              (power_within (input_mean input) input.numbers input.lines input.in_force h j p
              checked_numbers.dollar_most);
        }

-- the whole: a refusal, or the fixing
module _ (n : ℕ) (input : FixingInput) where
  pub input_told : AllTold (input_checks n input)
  unfolding AllTold input_checks
  input_told = (
    check_told 6 (ranged n input) OutOfRange refl,
    (
      check_told 7 (values_in_range input.series) ValueTooLarge refl,
      (
        check_told 8 (sectors_allowed n input.sectors) WrongSector refl,
        (
          check_told 9 (supplied n input) NoLine refl,
          table_told (index_table input) input.numbers input.lines input.in_force,
        ),
      ),
    ),
  )

  pub input_refused : (refusal : Refusal) → verdict_of (input_checks n input) ≡ Err refusal →
      InputPromise n input (Err refusal)
  input_refused refusal h =
      answers_by (λ _. []) (input_checks n input) (worked_fixing n input) input_told (Err refusal)
      (ap (λ v. answer_by v (worked_fixing n input)) (sym h))

  -- input that passed causes 6 to 9: the checks of the index table give the verdict
  module _ (ok : CheckedInput n input) where
    table_left : verdict_of (input_checks n input) ≡ verdict_of
        (table_checks (index_table input) input.numbers input.lines input.in_force)
    unfolding input_checks FirstPass
    table_left =
        verdict_from 4 (input_checks n input) (
          passes OutOfRange ok.ranges,
          (passes ValueTooLarge ok.small, (passes WrongSector ok.sectored, (passes NoLine ok.everyone, tt))),
        )

    -- what the pricing of its lines says: a refusal, or prices to go on with
    module _ (table : List (List ℕ)) (e : table ≡ index_table input) where
      pub priced_refused : (refusal : Refusal) →
          LinePricesPromise table input.numbers input.lines input.in_force (Err refusal) →
          InputPromise n input (Err refusal)
      priced_refused refusal promise =
          input_refused refusal (table_left
          ∙ passed_refused (index_table input) input.numbers input.lines input.in_force refusal (rw e at promise))

      module _ (prices : LinePrices)
          (promise : LinePricesPromise table input.numbers input.lines input.in_force (Ok prices)) where
        worked : (verdict_of (table_checks (index_table input) input.numbers input.lines input.in_force) ≡ Ok tt)
            × (prices ≡ worked_prices (input_mean input) input.numbers input.lines input.in_force)
        worked = passed_prices (index_table input) input.numbers input.lines input.in_force prices (rw e at promise)

        within : beyond_line input ≡ None
        within =
            passed_bounds (index_table input) input.numbers input.lines input.in_force worked.0

        references_are : prices.references ≡ input_references input
        unfolding input_references worked_prices
        references_are = ap (λ (p : LinePrices). p.references) worked.1

        power_is : prices.power ≡ input_power_prices input
        unfolding input_power_prices worked_prices
        power_is = ap (λ (p : LinePrices). p.power) worked.1

        pub priced_accepted : AcceptedLines n prices.references input.lines
        priced_accepted = checked_accepted n input ok within prices.references references_are

        pub priced_power : PowerPricedLines prices.power input.lines
        priced_power = checked_power n input ok within prices.power power_is

        pub priced_worked : (fixing : Fixing) →
            fixing ≡ accepted_fixing n (average_list n prices.references input.lines)
            (power_averages n prices.power input.lines) (energy_list input.lines) input.sectors →
            InputPromise n input (Ok fixing)
        unfolding worked_fixing input_averages input_power input_energies
        priced_worked fixing f =
            answers_by (λ _. []) (input_checks n input) (worked_fixing n input) input_told (Ok fixing)
            (rw (table_left, worked.0) (ap Ok (f ∙ rw (references_are, power_is))))

  -- the parts of its fixing
  pub passed_fixing : worked_fixing n input ≡ accepted_fixing n (input_averages n input) (input_power n input)
      (input_energies input) input.sectors
  unfolding worked_fixing
  passed_fixing = refl

  -- input that passed every check
  module _ (passed : input_verdict n input ≡ Ok tt) where
    pub passed_sectors : sectors_allowed n input.sectors ≡ true
    unfolding input_verdict input_checks FirstPass
    passed_sectors = passed_test WrongSector _ (all_passed (input_checks n input) passed).1.1.0

    -- its distributors are in range of the limit
    pub input_range : RightLengths n input → InRange (distributors n (input_averages n input) (input_energies input))
    unfolding input_verdict input_checks table_checks price_checks FirstPass input_averages input_energies
    input_range right =
        let all : FirstPass 7 (input_checks n input) = all_passed (input_checks n input) passed in
        let ok : CheckedInput n input =
        record {
          lengths = right;
          ranges = passed_test OutOfRange _ all.0;
          small = passed_test ValueTooLarge _ all.1.0;
          sectored = passed_test WrongSector _ all.1.1.0;
          everyone = passed_test NoLine _ all.1.1.1.0;
        } in
        accepted_range n (input_references input) input.lines
        (checked_accepted n input ok
        (bounds_passed (input_mean input) input.numbers input.lines input.in_force all.1.1.1.1.1.0)
        (input_references input) refl)
