-- The class examples of document 01, by its own numbers, as document 02 restates them, each evaluated by the
-- definitions that the contracts cite. Assumes nothing.
use Rattle.std.specs.Prelude.{List, [], ◌∷◌, ◌++◌, ℕ, zero, suc, replicate, ℤ, pos, negsuc}
use Rattle.std.specs.Prelude.{Option, Some, None}
use Rattle.numbers.specs.Bounded.{list_below}
use Rattle.numbers.specs.Refusal.{Answered, verdict_answered}
use Rattle.numbers.specs.declared.units.Pesos.{Pesos}
use Rattle.series.specs.Series.{series_table, mean_of, term_month}
use Rattle.supply.specs.Line.{line_of}
use Rattle.supply.specs.Price.{term_mean, line_indexed}
use Rattle.supply.specs.declared.market.FixingNumbers.{FixingNumbers}
use Rattle.fixing.specs.Limit.{Distributors, limit, rounds, charge}
use Rattle.fixing.specs.Sector.{sector_charge}
use Rattle.settlement.specs.Amount.{collected_amount}
use Rattle.settlement.specs.Settlement.{transfer}
use Rattle.settlement.specs.Month.{money_at}
use Rattle.settlement.specs.Example.{billed}
use Rattle.ledger.specs.Ledger.{opening_ledger}
use Rattle.ledger.specs.Fix.{fixing_answer, fixing_answered, fixing_list}
use Rattle.ledger.specs.Settle.{SettlementCall, settlement_verdict, settlement_ledger, settlement_list}
use Rattle.ledger.specs.Example.{plain_line, plain_call, print_call, print_ledger, first_billing, second_billing, first_ledger}
use Rattle.ledger.specs.declared.ledger.Ledger.{Ledger}
use Rattle.examples.specs.Table.{Example, whole}

-- a month as a value: -1 where it is below 0
unfoldable pub month_value : Option ℕ → ℤ
month_value None = negsuc 0
month_value (Some month) = pos month

-- the lent words of a table with one month in each row, of which coal and CPI have a value
unfoldable pub row_of : ℕ → List ℕ
row_of value = value ∷ replicate 47 0

unfoldable pub lent_words : ℕ → ℕ → List ℕ
lent_words coal cpi = row_of 0 ++ (row_of coal ++ (row_of 0 ++ (row_of cpi ++ row_of 0)))

-- example 3's month is 10, and the table's first month 9
unfoldable pub indexed_numbers : FixingNumbers
indexed_numbers = record { month = 10; day = 1; dollar = 100000; reference_factor = 10000; first_month = 9 }

-- example 3's line: coal over 610,160 with weight 6,000, CPI over 10,000 with weight 4,000, each of one month; its
-- power words pass
unfoldable pub indexed_line : List ℕ
indexed_line =
    0 ∷ 80000 ∷ 10000 ∷ 10000 ∷ 1 ∷ 2
    ∷ 1 ∷ 6000 ∷ 1 ∷ 1 ∷ 610160 ∷ 3 ∷ 4000 ∷ 1 ∷ 1 ∷ 10000 ∷ 0 ∷ 0 ∷ 0 ∷ 0 ∷ 0 ∷ 0 ∷ 0 ∷ 0 ∷ 0 ∷ 0
    ∷ 10000 ∷ 1 ∷ 1 ∷ 10000 ∷ []

-- 01's number of a fixing of one plain line, whose reference is its base price
unfoldable pub plain_number : ℕ → ℕ
plain_number base =
    (fixing_answered (fixing_answer (opening_ledger 1) (plain_call 1 (plain_line 0 base 1) (10000 ∷ replicate 7 0)))).number

-- two distributors of energy 1 each
abbrev pub of_two : ℕ → ℕ → ℕ → ℕ
of_two a b zero = a
of_two a b (suc k) = b

unfoldable pub pair : ℕ → ℕ → Distributors
pair a b = record { count = 2; average = of_two a b; energy = of_two 1 1 }

-- 01's number and values of the print's fixing
unfoldable pub print_answered : Answered
print_answered = fixing_answered (fixing_answer (opening_ledger 3) print_call)

-- 01's number of a settlement
unfoldable pub settled_number : Ledger → SettlementCall → ℕ
settled_number ledger call = (verdict_answered [] (settlement_verdict ledger call)).number

unfoldable pub first_money : ℕ → List Pesos → List ℤ
first_money n list = list_below n (money_at list)

-- positions 1, 1, 1, -2
abbrev pub odd_position : ℕ → ℤ
odd_position zero = pos 1
odd_position (suc zero) = pos 1
odd_position (suc (suc zero)) = pos 1
odd_position (suc (suc (suc k))) = negsuc 1

unfoldable pub class_examples : List Example
class_examples =
    -- "Example 1 is restated, as 250 and 217 millionths" (W-202)
    record { number = 1; computed = whole (mean_of 15 6 ∷ mean_of 13 6 ∷ []); printed = whole (250 ∷ 217 ∷ []) }
    ∷ record {
      number = 2;
      computed = list_below 6 (λ k. month_value (term_month 100 3 k));
      printed = whole (97 ∷ 96 ∷ 95 ∷ 94 ∷ 93 ∷ 92 ∷ []);
    }
    ∷ record {
      number = 3;
      computed =
          whole (line_indexed (term_mean (series_table (lent_words 762700 10000)) indexed_numbers) (line_of indexed_line 0)
          ∷ []);
      printed = whole (92000 ∷ []);
    }
    ∷ record {
      number = 4;
      computed = whole (limit (pair 21000 19000) ∷ rounds (pair 21000 19000) ∷ []);
      printed = whole (21000 ∷ 0 ∷ []);
    }
    ∷ record {
      number = 5;
      computed =
          whole (limit (pair 21001 19000) ∷ rounds (pair 21001 19000) ∷ []) ++ list_below 2 (charge (pair 21001 19000));
      printed = pos 21000 ∷ pos 1 ∷ negsuc 0 ∷ pos 1 ∷ [];
    }
    ∷ record {
      number = 6;
      computed = whole (print_answered.number ∷ print_answered.values) ++ fixing_list (opening_ledger 3) print_call;
      printed =
          whole (0 ∷ 84338 ∷ 13022 ∷ 2 ∷ 2 ∷ [])
          ++ (pos 100000 ∷ pos 84338 ∷ negsuc 15661 ∷ pos 83000 ∷ pos 84338 ∷ pos 1338 ∷ pos 60000 ∷ pos 73022 ∷ pos
          13022 ∷ []);
    }
    ∷ record { number = 7; computed = sector_charge (negsuc 2) 5000 ∷ []; printed = negsuc 1 ∷ [] }
    ∷ record {
      number = 8;
      computed =
          collected_amount (pos 1 ∷ []) (billed 500) (replicate 2 10000) 0
          ∷ collected_amount (pos 1 ∷ []) (billed 499) (replicate 2 10000) 0
          ∷ [];
      printed = pos 1 ∷ pos 0 ∷ [];
    }
    ∷ record {
      number = 9;
      computed = whole (settled_number print_ledger first_billing ∷ []) ++ first_money 3 first_ledger.balances;
      printed = pos 0 ∷ negsuc 1301 ∷ pos 0 ∷ pos 0 ∷ [];
    }
    ∷ record {
      number = 10;
      computed =
          whole (settled_number first_ledger second_billing ∷ [])
          ++ (settlement_list first_ledger second_billing ++ first_money 3
          (settlement_ledger first_ledger second_billing).balances);
      printed = pos 0 ∷ pos 1302 ∷ negsuc 120 ∷ negsuc 1180 ∷ pos 0 ∷ pos 1217 ∷ pos 11841 ∷ [];
    }
    -- "Example 11 becomes transfers -1, -1, 0, +2" (W-208)
    ∷ record {
      number = 11;
      computed = list_below 4 (transfer 4 odd_position);
      printed = negsuc 0 ∷ negsuc 0 ∷ pos 0 ∷ pos 2 ∷ [];
    }
    ∷ record { number = 12; computed = whole (plain_number 1000 ∷ plain_number 999 ∷ []); printed = whole (0 ∷ 11 ∷ []) }
    ∷ []
