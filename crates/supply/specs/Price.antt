-- "Steps for a line" of document 01, each half up, with the ratio of W-202 of document 02, the bounds of cause 11,
-- which price a line takes in an interim fixing (W-201), and its power price (W-204). The steps up to the indexed price
-- take the mean of each term as given; all later ones of energy take the price that the line takes. Assumes nothing.
use Rattle.std.specs.Prelude.{Bool, true, cond, ◌&&◌, List, [], ◌∷◌, ℕ, ◌+◌, ◌-◌, ◌*◌, leb, ltb, eqb, length, get_or}
use Rattle.std.specs.Prelude.{Option, Some, None, Result}
use Rattle.numbers.specs.Bounded.{sum_below, any_below, first_below, filled_below}
use Rattle.numbers.specs.Rounding.{half_up}
use Rattle.numbers.specs.Checks.{Met, Check, check, verdict_of, AnswersBy}
use Rattle.numbers.specs.declared.refusal.Refusal.{Refusal}
use Rattle.numbers.specs.declared.refusal.Refusal.TheVariants.{OutOfBounds, NoLineMoved}
use Rattle.numbers.specs.Refusal.{answer_by}
use Rattle.numbers.specs.Units.{between, checked_price, no_price, no_power}
use Rattle.numbers.specs.declared.units.PesoPrice.{PesoPrice}
use Rattle.numbers.specs.declared.units.PowerPrice.{PowerPrice}
use Rattle.series.specs.Series.{window_mean}
use Rattle.supply.specs.Line.{most_lines, most_terms, most_power_price, power_term, line_count, line_of, term_of}
use Rattle.supply.specs.Months.{lacks_month, month_check}
use Rattle.supply.specs.declared.line.Term.{Term}
use Rattle.supply.specs.declared.line.Line.{Line}
use Rattle.supply.specs.declared.market.FixingNumbers.{FixingNumbers}
use Rattle.supply.specs.declared.price.LinePrices.{LinePrices}

-- "the ratio divides by the base value times 100" (W-202), so that both are in millionths. It stands in place of 01's
-- "ratio = mean * 1,000,000 / base value".
unfoldable pub ratio_of : ℕ → ℕ → ℕ
ratio_of mean base_value = half_up (mean * 1000000) (base_value * 100)

-- "Indexed = base * factor / 1,000,000", in 0.001 US$/MWh
unfoldable pub indexed_of : ℕ → ℕ → ℕ
indexed_of base factor = half_up (base * factor) 1000000

-- "Purchase = indexed * purchase factor / offer factor"
unfoldable pub purchase_of : ℕ → ℕ → ℕ → ℕ
purchase_of taken purchase_factor offer_factor = half_up (taken * purchase_factor) offer_factor

-- "Peso = purchase * D / 100,000", in 0.001 $/kWh
unfoldable pub peso_of : ℕ → ℕ → ℕ
peso_of purchase dollar = half_up (purchase * dollar) 100000

-- "turned into thousandths of $/kW/month by D / 100, half up"
unfoldable pub power_peso_of : ℕ → ℕ → ℕ
power_peso_of purchase dollar = half_up (purchase * dollar) 100

-- "Reference = peso * F / purchase factor"
unfoldable pub reference_of : ℕ → ℕ → ℕ → ℕ
reference_of peso reference_factor purchase_factor = half_up (peso * reference_factor) purchase_factor

-- the mean of a term in the table, in the fixing's month
unfoldable pub term_mean : List (List ℕ) → FixingNumbers → Term → ℕ
term_mean table numbers term =
    window_mean (get_or table term.series []) numbers.first_month numbers.month term.lag term.window

-- the ratio of a term, `mean` being that of each term
unfoldable pub term_ratio : (Term → ℕ) → Term → ℕ
term_ratio mean term = ratio_of (mean term) term.base_value

-- what a term adds to the index factor: nothing where it is not used
unfoldable pub weighted_ratio : (Term → ℕ) → Term → Bool → ℕ
weighted_ratio mean term used = cond used (term.weight * term_ratio mean term) 0

-- "Factor = sum of weight * ratio / 10,000, half up (1,000,000 for count 0)"
unfoldable pub index_factor : (Term → ℕ) → Line → ℕ
index_factor mean line =
    cond (eqb line.term_count 0)
    1000000
    (half_up (sum_below most_terms (λ k. weighted_ratio mean (term_of line k) (ltb k line.term_count))) 10000)

-- the line's new indexed price
unfoldable pub line_indexed : (Term → ℕ) → Line → ℕ
line_indexed mean line = indexed_of line.base_price (index_factor mean line)

-- "Factor .. at most 100,000,000"; of power "the ratio is at most 100,000,000"
abbrev pub most_index_factor : ℕ
most_index_factor = 100000000

-- whether a base price is indexed within its bounds: by a factor that is not too large, to a price in 1 to `most`
unfoldable pub indexed_within : ℕ → ℕ → ℕ → Bool
indexed_within most base factor = leb factor most_index_factor && between 1 most (indexed_of base factor)

-- "Indexed .. must lie in 1 to 1,000,000"
unfoldable pub indexed_allowed : (Term → ℕ) → Line → Bool
indexed_allowed mean line = indexed_within 1000000 line.base_price (index_factor mean line)

-- "The caller lends, line by line, the indexed price in force": that of line j. A regular fixing is lent none
unfoldable pub price_in_force : List ℕ → ℕ → Option ℕ
price_in_force in_force j = cond (ltb j (length in_force)) (Some (get_or in_force j 0)) None

abbrev pub absolute_difference : ℕ → ℕ → ℕ
absolute_difference one other = (one - other) + (other - one)

-- whether a price moved by more than 10%: "if ten times the difference is more than the price in force; exactly 10%
-- keeps the old one". With none in force, it did
unfoldable pub moved : Option ℕ → ℕ → Bool
moved None indexed = true
moved (Some old) indexed = ltb old (10 * absolute_difference old indexed)

-- the price that a line takes: the new indexed price where it moved, else the one in force; with none in force, so in a
-- regular fixing, every new one
unfoldable pub price_taken : Option ℕ → ℕ → ℕ
price_taken None indexed = indexed
price_taken (Some old) indexed = cond (moved (Some old) indexed) indexed old

-- the later steps, from the price taken
unfoldable pub line_purchase : Line → ℕ → ℕ
line_purchase line taken = purchase_of taken line.purchase_factor line.offer_factor

unfoldable pub line_reference : FixingNumbers → Line → ℕ → ℕ
line_reference numbers line taken =
    reference_of (peso_of (line_purchase line taken) numbers.dollar) numbers.reference_factor
    line.purchase_factor

-- "purchase must lie in 1 to 1,000,000, reference in 1,000 to 2,000,000"
unfoldable pub reference_answer : FixingNumbers → Line → ℕ → Option PesoPrice
reference_answer numbers line taken =
    cond (between 1 1000000 (line_purchase line taken)) (checked_price (line_reference numbers line taken)) None

-- the line's reference, or that its index factor or a price of it is out of bounds: "11 also tests every new indexed
-- price", taken or not
unfoldable pub price_answer : (Term → ℕ) → FixingNumbers → Line → Option ℕ → Option PesoPrice
price_answer mean numbers line old =
    cond (indexed_allowed mean line)
    (reference_answer numbers line (price_taken old (line_indexed mean line)))
    None

-- that of line j, with its price in force
unfoldable pub answer_at : (Term → ℕ) → FixingNumbers → List ℕ → List ℕ → ℕ → Option PesoPrice
answer_at mean numbers lines in_force j = price_answer mean numbers (line_of lines j) (price_in_force in_force j)

-- "Its power price is indexed by that ratio alone": the CPI term's
unfoldable pub power_indexed : (Term → ℕ) → Line → ℕ
power_indexed mean line = indexed_of line.power_base_price (term_ratio mean (term_of line power_term))

-- "moved by purchase over offer factor"
unfoldable pub power_purchase : (Term → ℕ) → Line → ℕ
power_purchase mean line = line_purchase line (power_indexed mean line)

-- "the ratio is at most 100,000,000, indexed and purchase results 1 to 100,000,000"
unfoldable pub power_allowed : (Term → ℕ) → Line → Bool
power_allowed mean line =
    indexed_within most_power_price line.power_base_price (term_ratio mean (term_of line power_term))
    && between 1 most_power_price (power_purchase mean line)

-- the line's power price, in 0.001 $/kW/month. "An interim fixing works power afresh, without the 10% test": no price
-- in force is looked at
unfoldable pub line_power : (Term → ℕ) → FixingNumbers → Line → ℕ
line_power mean numbers line = power_peso_of (power_purchase mean line) numbers.dollar

-- the "first such line" of cause 11, in energy or in power
abbrev pub beyond_at : ℕ → Option PesoPrice → Bool → Option ℕ
beyond_at j (Some p) power = cond power None (Some j)
beyond_at j None power = Some j

unfoldable pub beyond_in : (Term → ℕ) → FixingNumbers → List ℕ → List ℕ → ℕ → Option ℕ
beyond_in mean numbers lines in_force j =
    beyond_at j (answer_at mean numbers lines in_force j) (power_allowed mean (line_of lines j))

unfoldable pub first_beyond : (Term → ℕ) → FixingNumbers → List ℕ → List ℕ → Option ℕ
first_beyond mean numbers lines in_force = first_below (line_count lines) (beyond_in mean numbers lines in_force)

-- 11: "factor or price out of bounds", with the "first such line"
abbrev pub out_of_bounds_at : Option ℕ → Option Met
out_of_bounds_at None = None
out_of_bounds_at (Some line) = Some (record { refusal = OutOfBounds line; values = line ∷ [] })

unfoldable pub bounds_check : (Term → ℕ) → FixingNumbers → List ℕ → List ℕ → Check
bounds_check mean numbers lines in_force =
    record { number = 11; met = out_of_bounds_at (first_beyond mean numbers lines in_force) }

-- whether any of the first prices moved from the one in force
unfoldable pub any_moved : List ℕ → ℕ → (ℕ → ℕ) → Bool
any_moved in_force count indexed = any_below count (λ j. moved (price_in_force in_force j) (indexed j))

-- whether a line's new indexed price did, of energy alone; "14 when no line moved by more than 10%, checked after 11"
unfoldable pub any_line_moved : (Term → ℕ) → List ℕ → List ℕ → Bool
any_line_moved mean lines in_force = any_moved in_force (line_count lines) (λ j. line_indexed mean (line_of lines j))

unfoldable pub price_checks : (Term → ℕ) → FixingNumbers → List ℕ → List ℕ → List Check
price_checks mean numbers lines in_force =
    bounds_check mean numbers lines in_force ∷ check 14 (any_line_moved mean lines in_force) NoLineMoved ∷ []

-- the reference of a line that has one
abbrev pub price_or : Option PesoPrice → PesoPrice
price_or (Some p) = p
price_or None = no_price

unfoldable pub reference_price : (Term → ℕ) → FixingNumbers → List ℕ → List ℕ → ℕ → PesoPrice
reference_price mean numbers lines in_force j = price_or (answer_at mean numbers lines in_force j)

-- the references of all lines; the places past them are empty
unfoldable pub reference_list : (Term → ℕ) → FixingNumbers → List ℕ → List ℕ → List PesoPrice
reference_list mean numbers lines in_force =
    filled_below most_lines no_price (line_count lines) (reference_price mean numbers lines in_force)

-- the power prices of all lines; the places past them are empty
unfoldable pub power_price : (Term → ℕ) → FixingNumbers → List ℕ → ℕ → PowerPrice
power_price mean numbers lines j = record { 0 = line_power mean numbers (line_of lines j) }

unfoldable pub power_list : (Term → ℕ) → FixingNumbers → List ℕ → List PowerPrice
power_list mean numbers lines = filled_below most_lines no_power (line_count lines) (power_price mean numbers lines)

-- what the lines' prices come to
unfoldable pub worked_prices : (Term → ℕ) → FixingNumbers → List ℕ → List ℕ → LinePrices
worked_prices mean numbers lines in_force =
    record {
      references = reference_list mean numbers lines in_force;
      power = power_list mean numbers lines;
    }

unfoldable pub bounded_prices : (Term → ℕ) → FixingNumbers → List ℕ → List ℕ → Result LinePrices Refusal
bounded_prices mean numbers lines in_force =
    answer_by (verdict_of (price_checks mean numbers lines in_force)) (worked_prices mean numbers lines in_force)

-- the checks that need the index table: month missing; then those of the prices
unfoldable pub table_checks : List (List ℕ) → FixingNumbers → List ℕ → List ℕ → List Check
table_checks table numbers lines in_force =
    month_check (lacks_month table numbers) lines ∷ price_checks (term_mean table numbers) numbers lines in_force

-- what pricing promises: the prices where the checks pass, else the refusal, with the number and values of the checks
abbrev pub LinePricesPromise : List (List ℕ) → FixingNumbers → List ℕ → List ℕ → Result LinePrices Refusal → Type 0
LinePricesPromise table numbers lines in_force given =
    AnswersBy (λ _. []) given (table_checks table numbers lines in_force)
    (worked_prices (term_mean table numbers) numbers lines in_force)
