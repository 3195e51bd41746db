-- One name that opens the definitions of this crate and of those below it, for examples that hold by computation:
-- a new definition that they compute with is named here. Assumes nothing.
use Prim.Native.Nat.{ℕ}
use Rattle.numbers.proofs.Computed.{numbers_computed}
use Rattle.series.specs.Series.{window_allowed, series_row, series_table, values_in_range, value_in, term_month}
use Rattle.series.specs.Series.{term_value, window_missing, mean_of, window_mean}

unfoldable pub series_computed : ℕ
unfolding numbers_computed window_allowed series_row series_table values_in_range value_in term_month term_value
    window_missing mean_of window_mean
series_computed = 0
