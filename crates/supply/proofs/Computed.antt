-- One name that opens the definitions of this crate and of those below it, for examples that hold by computation:
-- a new definition that they compute with is named here. Assumes nothing.
use Prim.Native.Nat.{ℕ}
use Rattle.series.proofs.Computed.{series_computed}
use Rattle.supply.specs.Line.{term_from, power_term_from, line_of, term_used}
use Rattle.supply.specs.Months.{lacks_month, missing_term, missing_in_line, first_missing, month_check}
use Rattle.supply.specs.Price.{ratio_of, indexed_of, purchase_of, peso_of, reference_of, term_mean, term_ratio}
use Rattle.supply.specs.Price.{weighted_ratio, index_factor, line_indexed, indexed_within, indexed_allowed}
use Rattle.supply.specs.Price.{power_peso_of, power_indexed, power_purchase, power_allowed, line_power, power_price}
use Rattle.supply.specs.Price.{power_list}
use Rattle.supply.specs.Price.{price_in_force, moved, price_taken, line_purchase, line_reference}
use Rattle.supply.specs.Price.{reference_answer, price_answer, answer_at, beyond_in, any_moved, any_line_moved}
use Rattle.supply.specs.Price.{first_beyond, bounds_check, price_checks, reference_price, reference_list, table_checks}
use Rattle.supply.specs.Range.{head_in_range, term_in_range, term_unused, term_allowed, terms_allowed, weight_total}
use Rattle.supply.specs.Range.{weights_allowed, power_in_range, line_in_range, lines_in_range, numbers_in_range}
use Rattle.supply.specs.Range.{input_in_range}

unfoldable pub supply_computed : ℕ
unfolding series_computed term_from power_term_from line_of term_used lacks_month missing_term missing_in_line first_missing
    month_check ratio_of
    indexed_of purchase_of peso_of reference_of term_mean term_ratio weighted_ratio index_factor line_indexed indexed_within
    indexed_allowed power_peso_of power_indexed power_purchase power_allowed line_power power_price power_list
    price_in_force moved price_taken line_purchase line_reference reference_answer price_answer answer_at
    beyond_in first_beyond bounds_check any_moved any_line_moved price_checks
    reference_price reference_list table_checks head_in_range term_in_range term_unused term_allowed terms_allowed weight_total
    weights_allowed power_in_range line_in_range lines_in_range numbers_in_range input_in_range
supply_computed = 0
