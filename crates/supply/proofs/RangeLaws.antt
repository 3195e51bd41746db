-- What a line that passes the test of its ranges has: each word within its bounds, as plain facts. Callers cite these
-- and not the test. Assumes nothing.
use mathlib.Core.Path.{◌≡◌, refl}
use mathlib.Core.Bool.{Bool, true, false, cond, ◌&&◌}
use mathlib.Core.List.{List}
use Prim.Native.Nat.{ℕ, ◌≤◌, ◌<◌}
use native.Mathlib.Omega.{arith}
use lib.Dec.{leb, ltb, eqb}
use borrow.Author.Tests.{leb-true, ltb-true, eqb-true, lt-ltb}
use Rattle.numbers.specs.Required.{ValuesWithin}
use Rattle.numbers.specs.Units.{between, all_between}
use Rattle.numbers.proofs.BoolLaws.{and_left, and_right, and_three, and_five, and_six, or_else}
use Rattle.numbers.proofs.TestLaws.{all_at}
use Rattle.numbers.proofs.UnitLaws.{between_low, between_high, values_within}
use Rattle.series.specs.Series.{series_count, most_value, last_month, window_allowed}
use Rattle.supply.specs.Line.{most_lines, most_terms, whole_weight, most_power_price, power_term, line_count, line_of}
use Rattle.supply.specs.Line.{term_of, term_used}
use Rattle.supply.specs.Range.{head_in_range, term_in_range, term_unused, term_allowed, terms_allowed, weights_allowed}
use Rattle.supply.specs.Range.{power_in_range, line_in_range, lines_in_range, numbers_in_range, input_in_range}
use Rattle.supply.specs.Required.{TermFacts, LineFacts, NumbersFacts, CheckedLines}
use Rattle.supply.specs.declared.line.Term.{Term}
use Rattle.supply.specs.declared.line.Line.{Line}
use Rattle.supply.specs.declared.market.FixingNumbers.{FixingNumbers}

term_facts : (term : Term) → term_in_range term ≡ true → TermFacts term
unfolding term_in_range
term_facts term h =
    let p =
    and_five (ltb term.series series_count) (between 1 whole_weight term.weight) (between 1 12 term.lag)
    (window_allowed term.window) (between 1 most_value term.base_value) h in
    record {
      series = ltb-true _ _ p.0;
      weight = between_high 1 whole_weight _ p.1;
      lag = between_low 1 12 _ p.2;
      lag_most = between_high 1 12 _ p.2;
      window = p.3;
      base = between_low 1 most_value _ p.4;
      base_most = between_high 1 most_value _ p.4;
    }

module _ (line : Line) (h : terms_allowed line ≡ true) where
  -- a term below the count, of terms that are all allowed
  allowed_term : (k : ℕ) → k < most_terms → k < line.term_count → TermFacts (term_of line k)
  unfolding terms_allowed term_allowed
  allowed_term k few p =
      term_facts (term_of line k)
      (rw (lt-ltb k line.term_count p) at
      (all_at most_terms (λ i. term_allowed (term_of line i) (ltb i line.term_count)) h k few))

  -- no weight is above 10,000, used or not
  pub allowed_weight : (k : ℕ) → k < most_terms → (term_of line k).weight ≤ 10000
  unfolding terms_allowed term_allowed term_unused
  allowed_weight k few =
      go (ltb k line.term_count)
      (all_at most_terms (λ i. term_allowed (term_of line i) (ltb i line.term_count)) h k few)
    where
      term : Term
      term = term_of line k

      go : (used : Bool) → cond used (term_in_range term) (term_unused term) ≡ true → term.weight ≤ 10000
      go true e = (term_facts term e).weight
      go false e =
          omega (
            arith,
            eqb-true term.weight 0
                (and_five (eqb term.series 0) (eqb term.weight 0) (eqb term.lag 0) (eqb term.window 0)
                (eqb term.base_value 0) e).1,
          )

-- the words before the terms
head_facts : (n : ℕ) (line : Line) → head_in_range n line ≡ true →
    (ltb line.distributor n ≡ true)
    × (between 1 1000000 line.base_price ≡ true)
    × (between 5000 20000 line.offer_factor ≡ true)
    × (between 5000 20000 line.purchase_factor ≡ true)
    × (between 1 10000000 line.energy ≡ true)
    × (leb line.term_count most_terms ≡ true)
unfolding head_in_range
head_facts n line h =
    and_six (ltb line.distributor n) (between 1 1000000 line.base_price)
    (between 5000 20000 line.offer_factor)
    (between 5000 20000 line.purchase_factor) (between 1 10000000 line.energy)
    (leb line.term_count most_terms) h

-- the parts of a line's test: the words before the terms, those of power, the terms
module _ (n : ℕ) (line : Line) (h : line_in_range n line ≡ true) where
  line_head : head_in_range n line ≡ true
  unfolding line_in_range
  line_head =
      and_left (head_in_range n line) (power_in_range line)
      (and_left (head_in_range n line && power_in_range line) (terms_allowed line && weights_allowed line) h)

  line_power_lem : (between 1 most_power_price line.power_base_price ≡ true)
      × (term_in_range (term_of line power_term) ≡ true)
  unfolding line_in_range power_in_range
  line_power_lem =
      let p =
      and_right (head_in_range n line) (power_in_range line)
      (and_left (head_in_range n line && power_in_range line) (terms_allowed line && weights_allowed line) h) in (
        and_left (between 1 most_power_price line.power_base_price) (term_in_range (term_of line power_term)) p,
        and_right (between 1 most_power_price line.power_base_price) (term_in_range (term_of line power_term)) p,
      )

  line_terms : terms_allowed line ≡ true
  unfolding line_in_range
  line_terms =
      and_left (terms_allowed line) (weights_allowed line)
      (and_right (head_in_range n line && power_in_range line) (terms_allowed line && weights_allowed line) h)

  -- every term that the line uses
  used_facts : line.term_count ≤ most_terms → (k : ℕ) → term_used line k ≡ true → TermFacts (term_of line k)
  unfolding term_used
  used_facts few k used = go (ltb k line.term_count) refl
    where
      go : (b : Bool) → ltb k line.term_count ≡ b → TermFacts (term_of line k)
      go true e = let p = ltb-true _ _ e in allowed_term line line_terms k (omega arith) p
      go false e =
          let same : k ≡ power_term = eqb-true _ _ (or_else (ltb k line.term_count) (eqb k power_term) used e) in
          rw same (term_facts (term_of line power_term) line_power_lem.1)

line_facts : (n : ℕ) (line : Line) → line_in_range n line ≡ true → LineFacts line
line_facts n line h =
    let p = head_facts n line (line_head n line h) in
    let few : line.term_count ≤ most_terms = leb-true _ _ p.5 in
    record {
      base = between_low 1 1000000 _ p.1;
      base_most = between_high 1 1000000 _ p.1;
      offer = between_low 5000 20000 _ p.2;
      offer_most = between_high 5000 20000 _ p.2;
      purchase = between_low 5000 20000 _ p.3;
      purchase_most = between_high 5000 20000 _ p.3;
      energy = between_low 1 10000000 _ p.4;
      energy_most = between_high 1 10000000 _ p.4;
      terms = few;
      power = between_high 1 most_power_price _ (line_power_lem n line h).0;
      term = used_facts n line h few;
    }

pub checked_lines : (n : ℕ) (lines : List ℕ) → line_count lines ≤ most_lines → lines_in_range n lines ≡ true →
    CheckedLines lines
unfolding lines_in_range
checked_lines n lines few h =
    record {
      few = few;
      facts =
          λ j p. line_facts n (line_of lines j) (all_at (line_count lines) (λ i. line_in_range n (line_of lines i)) h j p);
    }

-- every line's distributor is one of the n
pub lines_distributor : (n : ℕ) (lines : List ℕ) → lines_in_range n lines ≡ true → (j : ℕ) → j < line_count lines →
    (line_of lines j).distributor < n
unfolding lines_in_range
lines_distributor n lines h j p =
    let line = line_of lines j in
    ltb-true _ _
    (head_facts n line (line_head n line (all_at (line_count lines) (λ i. line_in_range n (line_of lines i)) h j p))).0

numbers_facts : (numbers : FixingNumbers) → numbers_in_range numbers ≡ true → NumbersFacts numbers
unfolding numbers_in_range
numbers_facts numbers h =
    let p =
    and_three (between 1 200000 numbers.dollar) (between 5000 20000 numbers.reference_factor)
    (leb numbers.first_month last_month) h in
    record {
      dollar_most = between_high 1 200000 _ p.0;
      factor_most = between_high 5000 20000 _ p.1;
      start = leb-true _ _ p.2;
    }

-- the parts of the test of the input
module _ (n : ℕ) (numbers : FixingNumbers) (lines in_force : List ℕ) (h : input_in_range n numbers lines in_force ≡ true)
  where
    input_parts : (numbers_in_range numbers ≡ true)
        × (lines_in_range n lines ≡ true)
        × (all_between 1 1000000 in_force ≡ true)
    unfolding input_in_range
    input_parts = and_three (numbers_in_range numbers) (lines_in_range n lines) (all_between 1 1000000 in_force) h

    pub input_numbers : NumbersFacts numbers
    input_numbers = numbers_facts numbers input_parts.0

    pub input_lines : lines_in_range n lines ≡ true
    input_lines = input_parts.1

    pub input_in_force : ValuesWithin 1000000 in_force
    input_in_force = values_within 1 1000000 in_force input_parts.2
